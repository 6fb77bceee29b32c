-- For private clauses: a walk through an order, id after id: what meets the reads of the next id, and which id of a session is the next.
use Rattle.std.specs.Prelude.{◌≡◌, ℕ, ◌+◌, ◌<◌, ⊤, List, length, slice_index, Option, Some, None, All, if◌then◌else◌}
use Rattle.std.specs.Option.{option_or}
use Rattle.std.specs.Ordering.{nat_cmp}
use Rattle.std.specs.FinMap.{FinMap, get}
use Rattle.txn.specs.declared.transactions.TxnId.{TxnId}
use Rattle.txn.specs.declared.transactions.Source.{Source}
use Rattle.txn.specs.declared.transactions.Source.TheVariants.{Init, By}
use Rattle.txn.specs.declared.transactions.Txn.{Txn}
use Rattle.txn.specs.History.{writes_key}
use Rattle.order_check.specs.declared.remainder.Parts.{Parts}
use Rattle.order_check.specs.Based.{mark_of, remaining_of, last_gone, IsReceived}

-- the last writer of a key: of those in front, or else of the gone ones
abbrev pub last_writer : Parts → FinMap nat_cmp TxnId → ℕ → Option TxnId
last_writer parts front key = option_or (get front key) (last_gone parts key)

-- A read of a key from this source is met by the last writers in front. From an id that isn't received it always is.
abbrev pub IsMetBy : Parts → FinMap nat_cmp TxnId → ℕ → Source → Type 0
IsMetBy parts front key Init = last_writer parts front key ≡ None
IsMetBy parts front key (By writer) = IsReceived parts writer → last_writer parts front key ≡ Some writer

-- each read of the transaction, where there is one, is met by the last writers in front
abbrev pub AreMetBy : Parts → FinMap nat_cmp TxnId → Option Txn → Type 0
AreMetBy parts front None = ⊤
AreMetBy parts front (Some txn) = All (λ read. IsMetBy parts front read.0 read.1) txn.reads

-- the last writer of a key after this id, where the one before it is given
abbrev pub writer_after : TxnId → Option Txn → ℕ → Option TxnId → Option TxnId
writer_after id txn key before = if writes_key txn key then Some id else before

-- the id is the next of its session, where so many of each session were taken
pub record IsNext (parts : Parts) (taken : List ℕ) (id : TxnId) : Type 0 where
  pub remains : slice_index taken id.session < length (remaining_of parts id.session)
  pub number : id.number ≡ mark_of parts id.session + slice_index taken id.session

-- of each session as many were taken as remain
abbrev pub AreAllTaken : Parts → List ℕ → Type 0
AreAllTaken parts taken = (s : ℕ) → slice_index taken s ≡ length (remaining_of parts s)
