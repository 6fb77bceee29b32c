-- Laws of what is left of whole histories.
use Rattle.std.specs.Prelude.{◌↔◌, ℕ, List, [], ◌++◌, map}
use Rattle.std.specs.Ordering.{nat_cmp}
use Rattle.std.specs.FinMap.{FinMap}
use Rattle.txn.specs.declared.transactions.TxnId.{TxnId}
use Rattle.txn.specs.History.{History}
use Rattle.order_check.specs.declared.remainder.Parts.{Parts}
use Rattle.order_check.specs.Based.{HasGoneBase}
use Rattle.order_check.specs.Cuts.{IsFront}
use Rattle.order_check.specs.NoBase.{HasNoBase}
use Rattle.order_check.specs.Settled.{IsCutAt, IsCutOf, IsSettled}
use Rattle.order_check.specs.declared.remainder.Kind.{Kind}
use Rattle.order_check.specs.Explains.{Explains}
use Rattle.order_check.specs.StandsFor.{IsOpenSession, StandsFor, bounded}
use Rattle.order_check.specs.Verdict.{HasOrder, IsVerdict}
use Rattle.round_state.specs.EngineState.{EngineState, engine_over}
use Rattle.round_state.specs.Legal.{asked_after, whole_after}
use Rattle.round_state.specs.Opening.{fresh, no_history}
use Rattle.round_state.specs.Steps.{StepsTo}
use Rattle.round_state.specs.declared.reports.Report.{Report}
use Rattle.round_state.specs.declared.steps.Step.{Step}
use Rattle.round_state.specs.declared.steps.StepReply.{StepReply}
use Rattle.round_state.specs.declared.steps.StepReply.TheVariants as reply
use Rattle.isolation_histories.specs.Halves.{event_at}
use Rattle.isolation_histories.specs.Snapshot.{IsSnapshotVerdict}
use Rattle.isolation_histories.specs.Split.{split_history, HistoryCanBeSplit}
use Rattle.whole_orders.specs.Isolated.{EndsSnapshotOrder}
use Rattle.whole_orders.specs.Left.{EndsOrderIfAny, HoldsLeft, IsLeftBehind, IsLeftOf}

-- Where nothing is gone, the parts are what is left of the history that remains, behind nothing.
abbrev pub BarePartsAreLeft : Type 0
BarePartsAreLeft = (parts : Parts) → HasNoBase parts → IsLeftBehind [] parts parts.remain

-- Bounds play no part in it: how many sessions there may be, and how many transactions may remain.
abbrev pub BoundsLeaveLeft : Type 0
BoundsLeaveLeft = (parts : Parts) (history : History) (most limit : ℕ) → IsLeftOf parts history → IsLeftOf (bounded parts most limit) history

-- What a cut leaves of parts is left of the same history, where it is one of a front that some order explains, at a fence that is settled there: behind
-- what was gone, and after that what the cut took out, in some order.
abbrev pub CutsLeaveTheRestLeft : Type 0
CutsLeaveTheRestLeft =
    (front old new : Parts) (history : History) (past : List TxnId) (fence : TxnId) (gone : List TxnId) (last : FinMap nat_cmp TxnId)
    → HasGoneBase old → IsLeftBehind past old history → HasOrder front → IsFront front old → IsSettled front (IsOpenSession front) fence → IsCutAt front fence gone last → IsCutOf old new gone last
    → (ahead : List TxnId) × IsLeftBehind (past ++ ahead) new history

-- A fresh engine holds what is left of the history in which nothing was received.
abbrev pub FreshEnginesGoOn : Type 0
FreshEnginesGoOn = (most sessions limit : ℕ) → HoldsLeft (fresh most sessions limit) (no_history sessions) (no_history sessions)

-- An engine that has such parts and nothing else holds what is left.
abbrev pub LeftPartsGoOn : Type 0
LeftPartsGoOn = (parts : Parts) (history : History) → HasGoneBase parts → IsLeftOf parts history → HoldsLeft (engine_over parts) history history

-- An engine that holds what is left does so after each step: of what had been received, and what the step has added to it.
abbrev pub StepsGoOn : Type 0
StepsGoOn =
    (old new : EngineState) (whole asked : History) (step : Step) (said : StepReply) → StepsTo old step said new → HoldsLeft old whole asked
    → HoldsLeft new (whole_after (record { engine = old; whole = whole; asked = asked }) step said) (asked_after (record { engine = old; whole = whole; asked = asked }) step said)

-- An order that it reports is the end of one that explains all that had been received when the round began.
abbrev pub ReportedOrdersEndOrders : Type 0
ReportedOrdersEndOrders = (old new : EngineState) (whole asked : History) (step : Step) (report : Report) → StepsTo old step (reply.Report report) new → HoldsLeft old whole asked → EndsOrderIfAny asked report.certificate

-- What parts tell of a history that was offered, whose halves they hold.
pub record TellIsolation (parts : Parts) (history : History) : Type 0 where
  -- some order explains them exactly if the whole history keeps snapshot isolation, and pending reads are told apart as there
  pub verdicts : (kind : Kind) → IsSnapshotVerdict history kind ↔ IsVerdict parts kind
  -- each order that explains them, read as begins and commits, is the end of one of the whole history that is snapshot isolation
  pub orders : (order : List TxnId) → Explains parts order → EndsSnapshotOrder history (map event_at order)

-- Parts that stand for a split history, and are what is left of it, tell so of the history as it was offered.
abbrev pub SplitPartsTell : Type 0
SplitPartsTell = (parts : Parts) (history : History) → HistoryCanBeSplit history → StandsFor parts (split_history history) → IsLeftOf parts (split_history history) → TellIsolation parts history
