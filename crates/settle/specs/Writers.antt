-- For private clauses: who writes which key last.
use Rattle.std.specs.Prelude.{◌≡◌, ◌≢◌, ◌⊎◌, ◌↔◌, ℕ, ⊤, Contains, List, Option, Some, None, IsSomeAnd}
use Rattle.std.specs.Ordering.{nat_cmp}
use Rattle.std.specs.FinMap.{FinMap, get, insert}
use Rattle.txn.specs.declared.transactions.TxnId.{TxnId}
use Rattle.order_check.specs.declared.remainder.Parts.{Parts}
use Rattle.order_check.specs.Known.{WritesKey}
use Rattle.order_check.specs.Settled.{IsBefore, InFront, IsLastIn}

-- each of the keys is there with the id, besides what was there
pub record GainsWrites (keys : List ℕ) (id : TxnId) (old new : List (ℕ × TxnId)) : Type 0 where
  pub stays : (write : ℕ × TxnId) → Contains old write → Contains new write
  pub gained : (key : ℕ) → Contains keys key → Contains new (key, id)
  pub only : (key : ℕ) (other : TxnId) → Contains new (key, other) → Contains old (key, other) ⊎ ((other ≡ id) × Contains keys key)

-- each key that one of the ids writes, with the id
pub record AreWritesOf (parts : Parts) (ids : List TxnId) (writes : List (ℕ × TxnId)) : Type 0 where
  pub all : (key : ℕ) (id : TxnId) → Contains ids id → WritesKey parts id key → Contains writes (key, id)
  pub only : (key : ℕ) (id : TxnId) → Contains writes (key, id) → Contains ids id × WritesKey parts id key

-- there is no last writer so far, or it comes before this one
abbrev pub Overrules : Parts → Option TxnId → TxnId → Type 0
Overrules parts None writer = ⊤
Overrules parts (Some last) writer = IsBefore parts last writer

-- the writer is noted where it overrules the last one so far
abbrev pub NotesOne : Parts → ℕ → TxnId → FinMap nat_cmp TxnId → FinMap nat_cmp TxnId → Type 0
NotesOne parts key writer old new = (Overrules parts (get old key) writer × (new ≡ insert old key writer)) ⊎ ((¬ Overrules parts (get old key) writer) × (new ≡ old))

-- of the writes of the key, all others come before this one
abbrev pub IsGreatest : Parts → List (ℕ × TxnId) → ℕ → TxnId → Type 0
IsGreatest parts writes key writer = (other : TxnId) → Contains writes (key, other) → other ≢ writer → IsBefore parts other writer

-- who is noted writes the key, and it is the one that all other writers of the key come before, where there is one
pub record AreNoted (parts : Parts) (writes : List (ℕ × TxnId)) (last : FinMap nat_cmp TxnId) : Type 0 where
  pub written : (key : ℕ) (writer : TxnId) → get last key ≡ Some writer → Contains writes (key, writer)
  pub greatest : (key : ℕ) (writer : TxnId) → Contains writes (key, writer) → IsGreatest parts writes key writer → get last key ≡ Some writer

-- the write is the one noted for its key, or comes before it
abbrev pub IsOverruled : Parts → FinMap nat_cmp TxnId → ℕ × TxnId → Type 0
IsOverruled parts last write = IsSomeAnd (get last write.0) (λ writer. (write.1 ≡ writer) ⊎ IsBefore parts write.1 writer)

-- each key that is written in front of the fence has a last writer there
abbrev pub HaveLastWriters : Parts → TxnId → Type 0
HaveLastWriters parts fence = (id : TxnId) (key : ℕ) → InFront parts fence id → WritesKey parts id key → (writer : TxnId) × IsLastIn parts fence key writer

-- these are the last writers in front of the fence, and no key that is written there is left out
pub record AreLastWriters (parts : Parts) (fence : TxnId) (last : FinMap nat_cmp TxnId) : Type 0 where
  pub each : HaveLastWriters parts fence
  pub last_of : (key : ℕ) (writer : TxnId) → (get last key ≡ Some writer) ↔ IsLastIn parts fence key writer
