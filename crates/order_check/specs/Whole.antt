-- Whole histories, with nothing gone: which orders explain them, and what a check of them says.
use Rattle.std.specs.Prelude.{◌≡◌, ℕ, List, ◌∷◌, ◌++◌, Some, All, filter}
use Rattle.txn.specs.declared.transactions.TxnId.{TxnId}
use Rattle.txn.specs.declared.transactions.Source.{Source}
use Rattle.txn.specs.declared.transactions.Source.TheVariants.{Init, By}
use Rattle.txn.specs.declared.transactions.Txn.{Txn}
use Rattle.txn.specs.History.{History, Received, session_of, txn_at, in_session, ids_from, NoneWrites, IsLastWriter, HasPendingRead}
use Rattle.order_check.specs.declared.remainder.Kind.{Kind}
use Rattle.order_check.specs.declared.remainder.Kind.TheVariants.{Serial, Pending, Violated, Spent}

-- A read of a key from this source is met by what stands in front of the reader. From the initial state: nothing in
-- front writes the key. From a received id: it writes the key and stands in front, and nothing between writes the key.
abbrev pub MeetsWhole : History → List TxnId → ℕ → Source → Type 0
MeetsWhole history front key Init = NoneWrites (txn_at history) key front
MeetsWhole history front key (By writer) = Received history writer → IsLastWriter (txn_at history) key front writer

-- An order explains a whole history.
pub record ExplainsWhole (history : History) (order : List TxnId) : Type 0 where
  -- session by session the order has the received ids, each once, in order of number, and no others
  pub sessions : (s : ℕ) → filter (in_session s) order ≡ ids_from s 0 (session_of history s)
  -- wherever an id stands, its reads are met by what stands in front
  pub reads : (front back : List TxnId) (id : TxnId) → order ≡ front ++ id ∷ back → (txn : Txn) → txn_at history id ≡ Some txn → All (λ read. MeetsWhole history front read.0 read.1) txn.reads

abbrev pub HasOrderWhole : History → Type 0
HasOrderWhole history = (order : List TxnId) × ExplainsWhole history order

-- some read waits for an id that isn't received
abbrev pub HasPendingWhole : History → Type 0
HasPendingWhole history = HasPendingRead (txn_at history) (Received history)

-- Violated where no order explains the history; else pending where some read is pending; else serial. It is never spent.
abbrev pub IsVerdictWhole : History → Kind → Type 0
IsVerdictWhole history Violated = ¬ HasOrderWhole history
IsVerdictWhole history Pending = HasOrderWhole history × HasPendingWhole history
IsVerdictWhole history Serial = HasOrderWhole history × (¬ HasPendingWhole history)
IsVerdictWhole history Spent = ⊥
