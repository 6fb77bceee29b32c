-- When parts stand for a whole history: whatever may still come, the verdicts agree.
use Rattle.std.specs.Prelude.{◌≡◌, ◌≢◌, ℕ, ◌<◌, ◌⊎◌, ◌↔◌, ⊤, true, false, List, [], ◌∷◌, ◌++◌, length, slice_get, slice_set, Some, IsSomeAnd}
use Rattle.txn.specs.declared.transactions.Fragment.{Fragment}
use Rattle.txn.specs.declared.transactions.Source.TheVariants.{By}
use Rattle.txn.specs.declared.transactions.Txn.{Txn}
use Rattle.txn.specs.declared.transactions.TxnId.{TxnId}
use Rattle.txn.specs.Transactions.{IsFence}
use Rattle.txn.specs.History.{History, session_of}
use Rattle.order_check.specs.declared.remainder.Parts.{Parts}
use Rattle.order_check.specs.declared.remainder.Kind.{Kind}
use Rattle.order_check.specs.Based.{last_gone, received_count, remaining_at}
use Rattle.order_check.specs.Verdict.{IsVerdict}
use Rattle.order_check.specs.Whole.{IsVerdictWhole}

-- A fragment that comes: more of a session that is open, the first of a new session, or one with which a session goes on
-- whether or not it was closed.
pub data Arrival : Type 0 where
  More : Fragment → Arrival
  Joins : Fragment → Arrival
  Returns : Fragment → Arrival

-- a history with a fragment at the end of its session
abbrev pub with_fragment : History → Fragment → History
with_fragment history fragment = slice_set history fragment.session (session_of history fragment.session ++ fragment.txns)

-- a history with one session more, which has the fragment
abbrev pub with_session : History → Fragment → History
with_session history fragment = history ++ fragment.txns ∷ []

-- parts with a fragment at the end of its session
abbrev pub parts_with : Parts → Fragment → Parts
parts_with parts fragment = record parts { remain = with_fragment parts.remain fragment }

-- parts with one session more, which is open and has the fragment
abbrev pub parts_joined : Parts → Fragment → Parts
parts_joined parts fragment = record parts {
  base = record parts.base { marks = parts.base.marks ++ 0 ∷ [] };
  remain = with_session parts.remain fragment;
  closed = parts.closed ++ false ∷ [];
}

-- parts with a fragment at the end of its session, which is open
abbrev pub parts_returned : Parts → Fragment → Parts
parts_returned parts fragment = record parts {
  remain = with_fragment parts.remain fragment;
  closed = slice_set parts.closed fragment.session false;
}

-- parts with this session closed
abbrev pub parts_closed : Parts → ℕ → Parts
parts_closed parts s = record parts { closed = slice_set parts.closed s true }

-- parts under these bounds: of how many sessions there may be, and of how many transactions may remain
abbrev pub bounded : Parts → ℕ → ℕ → Parts
bounded parts most limit = record parts { most_sessions = most; limit = limit }

-- a history with this arrival
abbrev pub history_after : History → Arrival → History
history_after history (More fragment) = with_fragment history fragment
history_after history (Joins fragment) = with_session history fragment
history_after history (Returns fragment) = with_fragment history fragment

-- parts with this arrival
abbrev pub parts_after : Parts → Arrival → Parts
parts_after parts (More fragment) = parts_with parts fragment
parts_after parts (Joins fragment) = parts_joined parts fragment
parts_after parts (Returns fragment) = parts_returned parts fragment

-- a history with arrival after arrival
abbrev pub history_then : History → List Arrival → History
history_then history [] = history
history_then history (arrival ∷ more) = history_then (history_after history arrival) more

-- parts with arrival after arrival
abbrev pub parts_then : Parts → List Arrival → Parts
parts_then parts [] = parts
parts_then parts (arrival ∷ more) = parts_then (parts_after parts arrival) more

abbrev pub IsOpenSession : Parts → ℕ → Type 0
IsOpenSession parts s = (s < length parts.remain) × (slice_get parts.closed s ≢ Some true)

-- a fragment that is next in an open session
pub record IsNextFragment (parts : Parts) (fragment : Fragment) : Type 0 where
  pub session : IsOpenSession parts fragment.session
  pub next : fragment.first ≡ received_count parts fragment.session

-- a fence that remains, or the last gone writer of the epoch key
abbrev pub IsAnchor : Parts → TxnId → Type 0
IsAnchor parts id = IsSomeAnd (remaining_at parts id) IsFence ⊎ (last_gone parts 0 ≡ Some id)

-- a fence that reads the epoch key from this id
abbrev pub IsFenceFrom : TxnId → Txn → Type 0
IsFenceFrom source txn = (txn.reads ≡ (0, By source) ∷ []) × (txn.writes ≡ 0 ∷ [])

-- Its first transaction is a fence that reads from an anchor. So all of it stands behind the anchor, in whatever order.
abbrev pub IsAnchored : Parts → Fragment → Type 0
IsAnchored parts fragment = (anchor : TxnId) × IsAnchor parts anchor × IsSomeAnd (slice_get fragment.txns 0) (IsFenceFrom anchor)

-- a fragment that may be the first of a new session
pub record IsJoiningFragment (parts : Parts) (fragment : Fragment) : Type 0 where
  pub session : fragment.session ≡ length parts.remain
  pub first : fragment.first ≡ 0
  pub anchored : IsAnchored parts fragment

-- A fragment with which a session may go on, whether or not it was closed. Nothing new is asked of the store by it: the fence says
-- where the session goes on, as it does for a new one.
pub record IsReturningFragment (parts : Parts) (fragment : Fragment) : Type 0 where
  pub session : fragment.session < length parts.remain
  pub next : fragment.first ≡ received_count parts fragment.session
  pub anchored : IsAnchored parts fragment

-- this may come next
abbrev pub ComesNext : Parts → Arrival → Type 0
ComesNext parts (More fragment) = IsNextFragment parts fragment
ComesNext parts (Joins fragment) = IsJoiningFragment parts fragment
ComesNext parts (Returns fragment) = IsReturningFragment parts fragment

-- these may come, one after another
abbrev pub MayCome : Parts → List Arrival → Type 0
MayCome parts [] = ⊤
MayCome parts (arrival ∷ more) = ComesNext parts arrival × MayCome (parts_after parts arrival) more

-- The parts stand for a whole history: as much was received of each session, and whatever may still come, in the sessions that
-- are open, new ones, and ones that come back, the verdict of the history with it is that of the parts with it. Bounds play no part
-- in it: neither how many sessions there may be nor how many transactions may remain.
pub record StandsFor (parts : Parts) (history : History) : Type 0 where
  pub sessions : length history ≡ length parts.remain
  pub received : (s : ℕ) → received_count parts s ≡ length (session_of history s)
  pub future : (more : List Arrival) → MayCome parts more → (kind : Kind) → IsVerdictWhole (history_then history more) kind ↔ IsVerdict (parts_then parts more) kind
