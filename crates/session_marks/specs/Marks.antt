-- How far each session has come, which fragment is next, and why another is refused.
use Rattle.std.specs.Prelude.{◌≡◌, ℕ, ◌+◌, ◌<◌, ◌≤◌, Bool, true, false, List, length, map, slice_index_or, slice_set}
use Rattle.txn.specs.declared.transactions.TxnId.{TxnId}
use Rattle.txn.specs.declared.transactions.Fragment.{Fragment}
use Rattle.txn.specs.declared.refusals.Refusal.{Refusal}
use Rattle.txn.specs.declared.refusals.Refusal.TheVariants.{BadSession, Closed, Gap, Repeat}
use Rattle.session_marks.specs.declared.marks.SessionMark.{SessionMark}

-- a session of which nothing was received, and that is open
abbrev pub fresh : SessionMark
fresh = record { gone = 0; received = 0; closed = false }

-- the mark of a session; one that isn't there is fresh
abbrev pub mark_at : List SessionMark → ℕ → SessionMark
mark_at marks s = slice_index_or marks s fresh

abbrev pub IsOpen : List SessionMark → ℕ → Type 0
IsOpen marks s = (s < length marks) × ((mark_at marks s).closed ≡ false)

abbrev pub IsClosed : List SessionMark → ℕ → Type 0
IsClosed marks s = (s < length marks) × ((mark_at marks s).closed ≡ true)

-- the transaction with this id was received
abbrev pub IsReceived : List SessionMark → TxnId → Type 0
IsReceived marks id = id.number < (mark_at marks id.session).received

-- how many transactions of each session were received
abbrev pub received_counts : List SessionMark → List ℕ
received_counts marks = map (λ mark. mark.received) marks

-- the marks after more of a session is received
abbrev pub with_received : List SessionMark → ℕ → ℕ → List SessionMark
with_received marks s count = let mark = mark_at marks s in slice_set marks s (record mark { received = mark.received + count })

-- the marks after more of a session is gone
abbrev pub with_gone : List SessionMark → ℕ → ℕ → List SessionMark
with_gone marks s count = let mark = mark_at marks s in slice_set marks s (record mark { gone = mark.gone + count })

-- the marks after a session is closed
abbrev pub with_closed : List SessionMark → ℕ → List SessionMark
with_closed marks s = slice_set marks s (record (mark_at marks s) { closed = true })

-- the marks with a session closed, or open
abbrev pub with_flag : List SessionMark → ℕ → Bool → List SessionMark
with_flag marks s closed = slice_set marks s (record (mark_at marks s) { closed = closed })

-- the fragment begins where its session, which is open, ends
pub record IsNext (marks : List SessionMark) (fragment : Fragment) : Type 0 where
  pub session : IsOpen marks fragment.session
  pub place : fragment.first ≡ (mark_at marks fragment.session).received

-- Why a fragment isn't next: its session isn't there, or is closed; else it starts above what was received
-- of the session, or below.
abbrev pub AdmitFault : List SessionMark → Fragment → Refusal → Type 0
AdmitFault marks fragment BadSession = length marks ≤ fragment.session
AdmitFault marks fragment Closed = IsClosed marks fragment.session
AdmitFault marks fragment Gap = IsOpen marks fragment.session × ((mark_at marks fragment.session).received < fragment.first)
AdmitFault marks fragment Repeat = IsOpen marks fragment.session × (fragment.first < (mark_at marks fragment.session).received)
AdmitFault marks fragment refusal = ⊥

-- why a session can't be closed: it isn't there, or is closed already
abbrev pub CloseFault : List SessionMark → ℕ → Refusal → Type 0
CloseFault marks s BadSession = length marks ≤ s
CloseFault marks s Closed = IsClosed marks s
CloseFault marks s refusal = ⊥
