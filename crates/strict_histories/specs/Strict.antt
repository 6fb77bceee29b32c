-- Strict serializability of whole histories (Herlihy and Wing 1990): an order explains the history, and a transaction that
-- ended before another one began comes before it there.
use Rattle.std.specs.Prelude.{◌≡◌, ℕ, ◌<◌, List, slice_get, Option, Some, map}
use Rattle.list_lemmas.specs.Precedes.{Precedes}
use Rattle.txn.specs.declared.transactions.TxnId.{TxnId}
use Rattle.txn.specs.History.{History, session_of}
use Rattle.order_check.specs.declared.remainder.Kind.{Kind}
use Rattle.order_check.specs.declared.remainder.Kind.TheVariants.{Serial, Pending, Violated, Spent}
use Rattle.order_check.specs.Whole.{ExplainsWhole, HasPendingWhole}
use Rattle.strict_histories.specs.declared.timed.TimedTxn.{TimedTxn}

-- for each session all its transactions with their times, in order of number
abbrev pub TimedHistory : Type 0
TimedHistory = List (List TimedTxn)

-- the same without times
abbrev pub untimed : TimedHistory → History
untimed timed = map (map (λ t. t.txn)) timed

-- the transaction that has an id, with its times
abbrev pub timed_at : TimedHistory → TxnId → Option TimedTxn
timed_at timed id = slice_get (session_of timed id.session) id.number

-- The one ended before the other began: both times are known, and the first is less. Equal times order nothing.
abbrev pub EndedBefore : TimedHistory → TxnId → TxnId → Type 0
EndedBefore timed one other =
    (a b : TimedTxn) × (ended began : ℕ)
    × (timed_at timed one ≡ Some a) × (a.span.ended ≡ Some ended)
    × (timed_at timed other ≡ Some b) × (b.span.began ≡ Some began)
    × (ended < began)

-- An order explains a history, and keeps real time.
pub record IsStrictOrder (timed : TimedHistory) (order : List TxnId) : Type 0 where
  pub explains : ExplainsWhole (untimed timed) order
  -- if one ended before another began, it comes before it
  pub real_time : (one other : TxnId) → EndedBefore timed one other → Precedes order one other

abbrev pub HasStrictOrder : TimedHistory → Type 0
HasStrictOrder timed = (order : List TxnId) × IsStrictOrder timed order

-- Violated if no order explains the history and keeps real time; else pending if some read is pending; else serial.
abbrev pub IsStrictVerdict : TimedHistory → Kind → Type 0
IsStrictVerdict timed Violated = ¬ HasStrictOrder timed
IsStrictVerdict timed Pending = HasStrictOrder timed × HasPendingWhole (untimed timed)
IsStrictVerdict timed Serial = HasStrictOrder timed × (¬ HasPendingWhole (untimed timed))
IsStrictVerdict timed Spent = ⊥
