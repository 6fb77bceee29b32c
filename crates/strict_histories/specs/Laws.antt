-- Laws of rewritten histories.
use Rattle.std.specs.Prelude.{◌≡◌, ℕ, ◌+◌, ◌≤◌, ◌↔◌, false, List, length, Some, None, option_map}
use Rattle.txn.specs.declared.transactions.TxnId.{TxnId}
use Rattle.txn.specs.Transactions.{IsFence, IsWellFormed}
use Rattle.txn.specs.History.{session_of, txn_at}
use Rattle.order_check.specs.declared.remainder.Kind.{Kind}
use Rattle.order_check.specs.Whole.{ExplainsWhole, HasPendingWhole, IsVerdictWhole}
use Rattle.strict_histories.specs.declared.timed.TimedTxn.{TimedTxn}
use Rattle.strict_histories.specs.Rewriting.{HasRoomForTimes, ended_before, strict_history, strict_txn}
use Rattle.strict_histories.specs.Strict.{TimedHistory, timed_at, untimed, IsStrictOrder, IsStrictVerdict}

-- The orders that explain a history and keep real time are those that explain the rewritten history, and no others.
abbrev pub SameOrdersRewritten : Type 0
SameOrdersRewritten = (timed : TimedHistory) (order : List TxnId) → HasRoomForTimes timed → IsStrictOrder timed order ↔ ExplainsWhole (strict_history timed) order

-- A read is pending in the rewritten history exactly if one is in the history.
abbrev pub RewritingKeepsPending : Type 0
RewritingKeepsPending = (timed : TimedHistory) → HasPendingWhole (untimed timed) ↔ HasPendingWhole (strict_history timed)

-- The verdict by strict serializability is the rewritten history's verdict by some order.
abbrev pub RewritingKeepsVerdict : Type 0
RewritingKeepsVerdict = (timed : TimedHistory) (kind : Kind) → HasRoomForTimes timed → IsStrictVerdict timed kind ↔ IsVerdictWhole (strict_history timed) kind

-- The transaction with an id is rewritten into the one with that id, and no others are there.
abbrev pub RewritingGoesByPlace : Type 0
RewritingGoesByPlace = (timed : TimedHistory) (id : TxnId) → txn_at (strict_history timed) id ≡ option_map (strict_txn timed id) (timed_at timed id)

-- A rewritten history has as many sessions, and each as many transactions.
abbrev pub RewritingKeepsCounts : Type 0
RewritingKeepsCounts = (timed : TimedHistory) → (length (strict_history timed) ≡ length timed) × ((s : ℕ) → length (session_of (strict_history timed) s) ≡ length (session_of timed s))

-- A transaction gets at most one read more for each session, and at most one write more.
abbrev pub RewritingAddsFew : Type 0
RewritingAddsFew = (timed : TimedHistory) (id : TxnId) (t : TimedTxn) → let txn = strict_txn timed id t in (length txn.reads ≤ length t.txn.reads + length timed) × (length txn.writes ≤ length t.txn.writes + 1)

-- What a transaction is rewritten into is well formed if the transaction is, didn't end before it began, and has no times if it is a fence.
abbrev pub RewritingIsWellFormed : Type 0
RewritingIsWellFormed =
    (sessions : ℕ) (timed : TimedHistory) (id : TxnId) (t : TimedTxn)
    → HasRoomForTimes timed → length timed ≤ sessions → timed_at timed id ≡ Some t → IsWellFormed sessions id t.txn
    → ended_before t.span t.span ≡ false → (IsFence t.txn → (t.span.began ≡ None) × (t.span.ended ≡ None))
    → IsWellFormed sessions id (strict_txn timed id t)
