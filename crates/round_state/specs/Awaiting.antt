-- For private clauses: which reads of a fragment wait, and what becomes of those that waited for its transactions.
use Rattle.std.specs.Prelude.{◌≡◌, ℕ, ◌+◌, ◌<◌, ◌≤◌, List, [], ◌∷◌, ◌++◌, nat_lt, if◌then◌else◌}
use Rattle.txn.specs.declared.transactions.TxnId.{TxnId}
use Rattle.txn.specs.declared.transactions.Source.{Source}
use Rattle.txn.specs.declared.transactions.Source.TheVariants.{Init, By}
use Rattle.txn.specs.declared.transactions.Txn.{Txn}
use Rattle.session_marks.specs.declared.marks.SessionMark.{SessionMark}
use Rattle.session_marks.specs.Marks.{mark_at}
use Rattle.pending_reads.specs.declared.index.PendingRead.{PendingRead}
use Rattle.pending_reads.specs.Waiting.{Index, waiting_for}

-- of these reads of a transaction, those from an id that isn't received
abbrev pub awaited_of : List SessionMark → TxnId → List (ℕ × Source) → List PendingRead
awaited_of marks reader [] = []
awaited_of marks reader ((key, Init) ∷ more) = awaited_of marks reader more
awaited_of marks reader ((key, By writer) ∷ more) =
    if nat_lt writer.number (mark_at marks writer.session).received
    then awaited_of marks reader more
    else (record { reader = reader; key = key; writer = writer } ∷ awaited_of marks reader more)

-- the same of the transactions of a session, the first of which has this number
abbrev pub awaited_from : List SessionMark → ℕ → ℕ → List Txn → List PendingRead
awaited_from marks s number [] = []
awaited_from marks s number (txn ∷ more) = awaited_of marks (record { session = s; number = number }) txn.reads ++ awaited_from marks s (number + 1) more

-- the id is one of so many of a session, the first of which has this number
pub record IsOneOf (s first count : ℕ) (id : TxnId) : Type 0 where
  pub session : id.session ≡ s
  pub low : first ≤ id.number
  pub high : id.number < first + count

-- nothing waits for these transactions any more, and all else waits as before
pub record HaveArrived (old new : Index) (s first count : ℕ) : Type 0 where
  pub arrived : (id : TxnId) → IsOneOf s first count id → waiting_for new id ≡ []
  pub others : (id : TxnId) → (¬ IsOneOf s first count id) → waiting_for new id ≡ waiting_for old id
