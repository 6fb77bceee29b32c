-- Which orders of what remains explain a history of which a part is gone.
use Rattle.std.specs.Prelude.{◌≡◌, ℕ, List, ◌∷◌, ◌++◌, Some, None, All, filter}
use Rattle.txn.specs.declared.transactions.TxnId.{TxnId}
use Rattle.txn.specs.declared.transactions.Source.{Source}
use Rattle.txn.specs.declared.transactions.Source.TheVariants.{Init, By}
use Rattle.txn.specs.declared.transactions.Txn.{Txn}
use Rattle.txn.specs.History.{in_session, NoneWrites, IsLastWriter}
use Rattle.order_check.specs.declared.remainder.Parts.{Parts}
use Rattle.order_check.specs.Based.{IsGone, Remains, remaining_at, last_gone, remaining_ids}

-- A read of a key from this id is met by what stands in front of the reader.
pub record MeetsId (parts : Parts) (front : List TxnId) (key : ℕ) (writer : TxnId) : Type 0 where
  -- from a gone id: it is the last gone writer of the key, and nothing in front writes the key
  pub gone : IsGone parts writer → (last_gone parts key ≡ Some writer) × NoneWrites (remaining_at parts) key front
  -- from one that remains: it writes the key and stands in front, and nothing between writes the key
  pub remaining : Remains parts writer → IsLastWriter (remaining_at parts) key front writer

-- A read of a key from this source is met by what stands in front. From the initial state: no gone transaction and
-- nothing in front writes the key. A read from an id that isn't received makes no demand.
abbrev pub Meets : Parts → List TxnId → ℕ → Source → Type 0
Meets parts front key Init = (last_gone parts key ≡ None) × NoneWrites (remaining_at parts) key front
Meets parts front key (By writer) = MeetsId parts front key writer

-- each read of the transaction is met by what stands in front of it
abbrev pub MeetsReads : Parts → List TxnId → TxnId → Type 0
MeetsReads parts front id = (txn : Txn) → remaining_at parts id ≡ Some txn → All (λ read. Meets parts front read.0 read.1) txn.reads

-- session by session the order has the ids that remain, each once, in order of number, and no others
abbrev pub KeepsSessions : Parts → List TxnId → Type 0
KeepsSessions parts order = (s : ℕ) → filter (in_session s) order ≡ remaining_ids parts s

-- wherever an id stands, its reads are met by what stands in front
abbrev pub MeetsAllReads : Parts → List TxnId → Type 0
MeetsAllReads parts order = (front back : List TxnId) (id : TxnId) → order ≡ front ++ id ∷ back → MeetsReads parts front id

-- An order of what remains explains the parts.
pub record Explains (parts : Parts) (order : List TxnId) : Type 0 where
  pub sessions : KeepsSessions parts order
  pub reads : MeetsAllReads parts order
