-- For private clauses: all that is there in a graph, in order of id.
use Rattle.std.specs.Prelude.{ℕ, zero, suc, ◌-◌, List, [], ◌∷◌, ◌++◌, length, slice_index}
use Rattle.txn.specs.declared.transactions.TxnId.{TxnId}

-- the session's transactions with so many numbers from the first on
abbrev pub ids_from : ℕ → ℕ → ℕ → List TxnId
ids_from session first zero = []
ids_from session first (suc count) = record { session = session; number = first } ∷ ids_from session (suc first) count

-- what is there of the first so many sessions
abbrev pub there_below : List ℕ → List ℕ → ℕ → List TxnId
there_below gone received zero = []
there_below gone received (suc session) = there_below gone received session ++ ids_from session (slice_index gone session) (slice_index received session - slice_index gone session)

abbrev pub all_there : List ℕ → List ℕ → List TxnId
all_there gone received = there_below gone received (length received)
