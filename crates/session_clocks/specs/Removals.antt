-- What is left of a graph when a session's last transaction goes.
use Rattle.std.specs.Prelude.{◌≡◌, ◌≢◌, ℕ, ◌+◌, ◌-◌, ◌<◌, List, Vec, All, slice_index, length}
use Rattle.std.specs.declared.alloc.Global.{Global}
use Rattle.txn.specs.declared.transactions.TxnId.{TxnId}
use Rattle.txn.specs.declared.choices.Arc.{Arc}
use Rattle.txn.specs.Arcs.{start_of, end_of}
use Rattle.session_clocks.specs.Rows.{line_at, IsOneLine}

-- the transaction is the last one of its session, of which so many were received
abbrev pub IsLast : List ℕ → TxnId → Type 0
IsLast received id = id.number + 1 ≡ slice_index received id.session

-- none of the arcs begins or ends at the transaction
abbrev pub IsUntouched : List Arc → TxnId → Type 0
IsUntouched arcs id = All (λ arc. (start_of arc ≢ id) × (end_of arc ≢ id)) arcs

-- for private clauses: the list without so many of its last numbers
pub record IsCut (old new : List ℕ) (count : ℕ) : Type 0 where
  pub len : length new ≡ length old - count
  pub each : (j : ℕ) → j < length new → slice_index new j ≡ slice_index old j

-- for private clauses: the session's line has one row less, and no other line changed
pub record HasRowLess (old new : List (Vec ℕ Global)) (width session : ℕ) : Type 0 where
  pub row : IsCut (line_at old session) (line_at new session) width
  pub others : IsOneLine old new session
