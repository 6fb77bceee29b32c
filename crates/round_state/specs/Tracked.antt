-- For private clauses: what an engine keeps beside its parts, and finds in them too: how far each session is, and which reads are pending.
use Rattle.std.specs.Prelude.{◌≡◌, ◌↔◌, ℕ, ◌<◌, ◌≤◌, false, List, length, slice_index_or}
use Rattle.txn.specs.declared.transactions.TxnId.{TxnId}
use Rattle.txn.specs.declared.transactions.Source.TheVariants.{By}
use Rattle.txn.specs.History.{Reads}
use Rattle.session_marks.specs.declared.marks.SessionMark.{SessionMark}
use Rattle.session_marks.specs.Marks.{mark_at}
use Rattle.pending_reads.specs.Waiting.{Index, Waits}
use Rattle.order_check.specs.declared.remainder.Parts.{Parts}
use Rattle.order_check.specs.Good.{IsGood}
use Rattle.order_check.specs.Based.{mark_of, received_count, remaining_at, IsReceived}

-- The marks tell of each session of the parts how many are gone, how many were received, and whether it is closed.
pub record AreMarksOf (marks : List SessionMark) (parts : Parts) : Type 0 where
  pub sessions : length marks ≡ length parts.remain
  pub gone : (s : ℕ) → (mark_at marks s).gone ≡ mark_of parts s
  pub received : (s : ℕ) → (mark_at marks s).received ≡ received_count parts s
  pub closed : (s : ℕ) → (mark_at marks s).closed ≡ slice_index_or parts.closed s false

-- The marks tell of the parts, but for how many are gone: so many at most, and just as many in the sessions before this one.
pub record AreRaisedBelow (marks : List SessionMark) (parts : Parts) (s : ℕ) : Type 0 where
  pub sessions : length marks ≡ length parts.remain
  pub low : (t : ℕ) → (mark_at marks t).gone ≤ mark_of parts t
  pub gone : (t : ℕ) → t < s → (mark_at marks t).gone ≡ mark_of parts t
  pub received : (t : ℕ) → (mark_at marks t).received ≡ received_count parts t
  pub closed : (t : ℕ) → (mark_at marks t).closed ≡ slice_index_or parts.closed t false

-- how far a session of the parts is
abbrev pub mark_in : Parts → ℕ → SessionMark
mark_in parts s = record { gone = mark_of parts s; received = received_count parts s; closed = slice_index_or parts.closed s false }

-- the marks of so many sessions of the parts
pub record AreFirstMarks (marks : List SessionMark) (parts : Parts) (count : ℕ) : Type 0 where
  pub sessions : length marks ≡ count
  pub same : (s : ℕ) → s < count → mark_at marks s ≡ mark_in parts s

-- a read of what remains waits for an id that isn't received
abbrev pub IsPendingRead : Parts → TxnId → ℕ → TxnId → Type 0
IsPendingRead parts reader key writer = Reads (remaining_at parts) reader key (By writer) × (¬ IsReceived parts writer)

-- the index has exactly the pending reads of the parts
abbrev pub IsIndexOf : Index → Parts → Type 0
IsIndexOf index parts = (reader writer : TxnId) (key : ℕ) → Waits index reader key writer ↔ IsPendingRead parts reader key writer

-- the index has exactly the pending reads of the sessions before this one
abbrev pub IsIndexBelow : Index → Parts → ℕ → Type 0
IsIndexBelow index parts s = (reader writer : TxnId) (key : ℕ) → Waits index reader key writer ↔ ((reader.session < s) × IsPendingRead parts reader key writer)

-- What is kept beside the parts tells of them, and they keep their rules.
pub record IsTracked (marks : List SessionMark) (index : Index) (parts : Parts) : Type 0 where
  pub good : IsGood parts
  pub marks_fit : AreMarksOf marks parts
  pub waits_fit : IsIndexOf index parts
