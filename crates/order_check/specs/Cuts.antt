-- Parts that have grown behind a front, and what a cut of the front leaves of them.
use Rattle.std.specs.Prelude.{◌≡◌, ℕ, ◌<◌, ◌≤◌, ◌⊎◌, List, ◌++◌, length}
use Rattle.std.specs.Ordering.{nat_cmp}
use Rattle.std.specs.FinMap.{FinMap}
use Rattle.txn.specs.declared.transactions.TxnId.{TxnId}
use Rattle.txn.specs.declared.transactions.Txn.{Txn}
use Rattle.order_check.specs.declared.remainder.Parts.{Parts}
use Rattle.order_check.specs.Based.{mark_of, remaining_of, Remains}
use Rattle.order_check.specs.SameContent.{HaveSameContent}
use Rattle.order_check.specs.Settled.{IsBefore, IsPast, IsSettled, IsCutAt, IsCutOf, NoSession}
use Rattle.order_check.specs.StandsFor.{IsOpenSession}

-- session by session a front of what remains, with the same gone; the parts may have more sessions
pub record IsFront (front parts : Parts) : Type 0 where
  pub last : front.base.last ≡ parts.base.last
  pub marks : (s : ℕ) → mark_of front s ≡ mark_of parts s
  pub sessions : length front.remain ≤ length parts.remain
  pub remain : (s : ℕ) → (later : List Txn) × (remaining_of parts s ≡ remaining_of front s ++ later)

-- the session goes on past the front
abbrev pub GoesOn : Parts → Parts → ℕ → Type 0
GoesOn front parts s = length (remaining_of front s) < length (remaining_of parts s)

-- the session may still receive, or has received past the front
abbrev pub MayGoOn : Parts → Parts → ℕ → Type 0
MayGoOn front parts s = IsOpenSession parts s ⊎ GoesOn front parts s

-- A front that is kept while its parts go on: the sessions and the base are the same, and who may still receive, or has received
-- past the front, is open there.
pub record IsKeptFront (front parts : Parts) : Type 0 where
  pub base : front.base ≡ parts.base
  pub sessions : length front.remain ≡ length parts.remain
  pub is_front : IsFront front parts
  pub open_there : (s : ℕ) → MayGoOn front parts s → IsOpenSession front s

-- The fence is settled in the front, and all that remains behind the front is known to come after it.
pub record IsSettledBehind (front whole : Parts) (fence : TxnId) : Type 0 where
  pub settled : IsSettled front NoSession fence
  pub behind : (id : TxnId) → Remains whole id → (¬ Remains front id) → IsBefore whole fence id

-- The same, and so will all that its open sessions may still receive.
pub record IsSettledFor (front whole : Parts) (fence : TxnId) : Type 0 where
  pub so_far : IsSettledBehind front whole fence
  pub past : (s : ℕ) → IsOpenSession whole s → IsPast whole fence s

-- a cut of the front, at a fence that is settled there and behind which all the rest stands, leaves the new parts of the
-- whole
pub record IsCutBehind (front whole : Parts) (gone : List TxnId) (last : FinMap nat_cmp TxnId) (new : Parts) : Type 0 where
  pub fence : TxnId
  pub is_front : IsFront front whole
  pub settled : IsSettledBehind front whole fence
  pub cut : IsCutAt front fence gone last
  pub leaves : IsCutOf whole new gone last

-- a cut of some front of the old parts leaves the new ones
pub record IsCutOff (old : Parts) (gone : List TxnId) (new : Parts) : Type 0 where
  pub front : Parts
  pub last : FinMap nat_cmp TxnId
  pub behind : IsCutBehind front old gone last new

-- The same of base and remainder alone: a cut of parts with those of the old leaves parts with those of the new.
pub record IsContentCutOff (old : Parts) (gone : List TxnId) (new : Parts) : Type 0 where
  pub before : Parts
  pub after : Parts
  pub same_before : HaveSameContent before old
  pub same_after : HaveSameContent after new
  pub cut_off : IsCutOff before gone after
