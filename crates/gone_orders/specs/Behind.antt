-- What remains of a whole history behind an order of what is gone.
use Rattle.std.specs.Prelude.{◌≡◌, ℕ, ◌≤◌, ◌↔◌, List, ◌∷◌, ◌++◌, drop, length, take, Some, All, filter}
use Rattle.txn.specs.declared.transactions.TxnId.{TxnId}
use Rattle.txn.specs.declared.transactions.Source.{Source}
use Rattle.txn.specs.declared.transactions.Source.TheVariants.{Init, By}
use Rattle.txn.specs.declared.transactions.Txn.{Txn}
use Rattle.txn.specs.History.{History, session_of, txn_at, in_session, ids_from, NoneWrites, IsLastWriter}
use Rattle.order_check.specs.declared.remainder.Parts.{Parts}
use Rattle.order_check.specs.Based.{last_gone, mark_of, remaining_of}

-- A read of a key from this source is met by what stands in front, whatever may still arrive. From the initial state: nothing in front writes the
-- key. From an id: that writes it and stands in front, and nothing between writes it.
abbrev pub IsMetForGood : History → List TxnId → ℕ → Source → Type 0
IsMetForGood history front key Init = NoneWrites (txn_at history) key front
IsMetForGood history front key (By writer) = IsLastWriter (txn_at history) key front writer

-- The parts are what remains of the history behind what is gone of it, in this order.
pub record RemainsBehind (past : List TxnId) (parts : Parts) (history : History) : Type 0 where
  pub sessions : length history ≡ length parts.remain
  -- session by session so many are gone as its mark says: the first ones, in order of number
  pub marks : (s : ℕ) → mark_of parts s ≤ length (session_of history s)
  pub gone : (s : ℕ) → filter (in_session s) past ≡ ids_from s 0 (take (mark_of parts s) (session_of history s))
  -- all others remain
  pub remain : (s : ℕ) → remaining_of parts s ≡ drop (mark_of parts s) (session_of history s)
  -- wherever one that is gone stands, its reads are met by what stands in front
  pub met : (front back : List TxnId) (id : TxnId) → past ≡ front ++ id ∷ back → (txn : Txn) → txn_at history id ≡ Some txn → All (λ read. IsMetForGood history front read.0 read.1) txn.reads
  -- the last gone writer of each key is the last one that writes it there
  pub last : (key : ℕ) (writer : TxnId) → (last_gone parts key ≡ Some writer) ↔ IsLastWriter (txn_at history) key past writer
