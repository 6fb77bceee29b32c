-- Which transactions are there, and which of them reaches which.
use Rattle.std.specs.Prelude.{◌≡◌, ℕ, ◌<◌, ◌≤◌, ◌⊎◌, List, Contains, slice_index}
use Rattle.txn.specs.declared.transactions.TxnId.{TxnId}
use Rattle.txn.specs.declared.choices.Arc.{Arc}
use Rattle.txn.specs.Arcs.{start_of, end_of}

-- the transaction was received, and isn't gone: each session has the numbers from how many of it are gone up to how many were received
abbrev pub IsThere : List ℕ → List ℕ → TxnId → Type 0
IsThere gone received id = (slice_index gone id.session ≤ id.number) × (id.number < slice_index received id.session)

-- The least transitive relation in which each transaction reaches the later ones of its session, and the start of each arc its end.
pub data Reaches (gone received : List ℕ) (arcs : List Arc) : TxnId → TxnId → Type 0 where
  by_session : (a b : TxnId) → IsThere gone received a → IsThere gone received b → a.session ≡ b.session → a.number < b.number → Reaches gone received arcs a b
  by_arc : (arc : Arc) → Contains arcs arc → Reaches gone received arcs (start_of arc) (end_of arc)
  through : (a b c : TxnId) → Reaches gone received arcs a b → Reaches gone received arcs b c → Reaches gone received arcs a c

-- it is the same transaction, or is reached
abbrev pub IsOrReaches : List ℕ → List ℕ → List Arc → TxnId → TxnId → Type 0
IsOrReaches gone received arcs a b = (a ≡ b) ⊎ Reaches gone received arcs a b
