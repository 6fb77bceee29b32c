-- Fences that are settled, and what a cut at one takes out and leaves.
use Rattle.std.specs.Prelude.{◌≡◌, ◌≢◌, ℕ, ◌+◌, ◌<◌, ◌⊎◌, ◌↔◌, List, [], length, drop, Some, None, Option, Contains, count_by, IsSomeAnd}
use Rattle.std.specs.Ordering.{nat_cmp}
use Rattle.std.specs.FinMap.{FinMap, get}
use Rattle.txn.specs.declared.transactions.TxnId.{TxnId}
use Rattle.txn.specs.declared.transactions.Source.TheVariants.{By}
use Rattle.txn.specs.Transactions.{id_below, Rises, IsFence}
use Rattle.txn.specs.History.{session_of, in_session}
use Rattle.order_check.specs.declared.remainder.Parts.{Parts}
use Rattle.order_check.specs.Based.{mark_of, remaining_at, Remains, IsReceived}
use Rattle.order_check.specs.Known.{Known, ReadsKey, WritesKey}

-- the one is known to come before the other
abbrev pub IsBefore : Parts → TxnId → TxnId → Type 0
IsBefore parts a b = Known parts [] a b

-- the session has a remaining transaction that is the fence or comes after it
abbrev pub IsPast : Parts → TxnId → ℕ → Type 0
IsPast parts fence s = (id : TxnId) × (id.session ≡ s) × Remains parts id × ((id ≡ fence) ⊎ IsBefore parts fence id)

-- the fence and all that comes before it
abbrev pub InFront : Parts → TxnId → TxnId → Type 0
InFront parts fence id = (id ≡ fence) ⊎ IsBefore parts id fence

-- the last writer of a key in front of the fence: all others in front are known to come before it
pub record IsLastIn (parts : Parts) (fence : TxnId) (key : ℕ) (writer : TxnId) : Type 0 where
  pub front : InFront parts fence writer
  pub written : WritesKey parts writer key
  pub last : (other : TxnId) → InFront parts fence other → WritesKey parts other key → other ≢ writer → IsBefore parts other writer

-- A remaining fence is settled, where these sessions are open.
pub record IsSettled (parts : Parts) (is_open : ℕ → Type 0) (fence : TxnId) : Type 0 where
  pub remains : IsSomeAnd (remaining_at parts fence) IsFence
  -- every other remaining transaction comes before or after it
  pub ordered : (id : TxnId) → Remains parts id → id ≢ fence → IsBefore parts id fence ⊎ IsBefore parts fence id
  -- every open session is past it
  pub past : (s : ℕ) → s < length parts.remain → is_open s → IsPast parts fence s
  -- nothing in front of it has a pending read
  pub nothing_pending : (id writer : TxnId) (key : ℕ) → InFront parts fence id → ReadsKey parts id key (By writer) → IsReceived parts writer
  -- each key written in front of it has a last writer there
  pub last_writers : (id : TxnId) (key : ℕ) → InFront parts fence id → WritesKey parts id key → (writer : TxnId) × IsLastIn parts fence key writer

-- no session is open
abbrev pub NoSession : ℕ → Type 0
NoSession s = ⊥

-- the settled fence that comes after all other settled ones
pub record IsLastSettled (parts : Parts) (is_open : ℕ → Type 0) (fence : TxnId) : Type 0 where
  pub settled : IsSettled parts is_open fence
  pub last : (other : TxnId) → IsSettled parts is_open other → other ≢ fence → IsBefore parts other fence

-- what a cut at the fence takes out, in order of id, and the last writers of the keys written there
pub record IsCutAt (parts : Parts) (fence : TxnId) (gone : List TxnId) (last : FinMap nat_cmp TxnId) : Type 0 where
  pub rise : Rises id_below gone
  pub front : (id : TxnId) → Contains gone id ↔ InFront parts fence id
  pub last_of : (key : ℕ) (writer : TxnId) → (get last key ≡ Some writer) ↔ IsLastIn parts fence key writer

-- the first where there is one, else the second
abbrev pub or_else : Option TxnId → Option TxnId → Option TxnId
or_else None second = second
or_else (Some first) second = Some first

-- how many of the ids are of the session
abbrev pub count_in : List TxnId → ℕ → ℕ
count_in ids s = count_by (in_session s) ids

-- Parts after a cut: the gone are out of the remainder, their last writers overrule, and the marks are raised. What
-- arrived later stays.
pub record IsCutOf (old new : Parts) (gone : List TxnId) (last : FinMap nat_cmp TxnId) : Type 0 where
  pub sessions : length new.remain ≡ length old.remain
  pub remain : (s : ℕ) → session_of new.remain s ≡ drop (count_in gone s) (session_of old.remain s)
  pub marks_length : length new.base.marks ≡ length old.base.marks
  pub marks : (s : ℕ) → mark_of new s ≡ mark_of old s + count_in gone s
  pub writers : (key : ℕ) → get new.base.last key ≡ or_else (get last key) (get old.base.last key)
  pub closed : new.closed ≡ old.closed
  pub most_sessions : new.most_sessions ≡ old.most_sessions
  pub limit : new.limit ≡ old.limit
