-- Laws of engines that stand behind an order of what is gone.
use Rattle.std.specs.Prelude.{◌≡◌, ℕ, List, [], ◌++◌, Some, map}
use Rattle.txn.specs.declared.transactions.TxnId.{TxnId}
use Rattle.txn.specs.History.{History}
use Rattle.order_check.specs.declared.remainder.Parts.{Parts}
use Rattle.order_check.specs.Based.{HasGoneBase}
use Rattle.round_state.specs.EngineState.{EngineState, engine_over}
use Rattle.round_state.specs.Legal.{asked_after, whole_after}
use Rattle.round_state.specs.Opening.{fresh, no_history}
use Rattle.round_state.specs.Steps.{StepsTo}
use Rattle.round_state.specs.declared.reports.Report.{Report}
use Rattle.round_state.specs.declared.steps.Step.{Step}
use Rattle.round_state.specs.declared.steps.StepReply.{StepReply}
use Rattle.round_state.specs.declared.steps.StepReply.TheVariants as reply
use Rattle.isolation_histories.specs.Halves.{event_at}
use Rattle.isolation_histories.specs.Split.{split_history}
use Rattle.gone_orders.specs.Behind.{RemainsBehind}
use Rattle.isolation_rests.specs.Behind.{TellBehind}
use Rattle.engine_pasts.specs.Holding.{EventsStandBehind, HoldsBehind, MovesOn, StandsBehind}

-- A fresh engine stands behind nothing.
abbrev pub FreshEnginesHoldBehind : Type 0
FreshEnginesHoldBehind = (most sessions limit : ℕ) → HoldsBehind [] (fresh most sessions limit) (no_history sessions) (no_history sessions)

-- An engine that has parts and nothing else, as where one is handed over, stands behind what they remain behind.
abbrev pub PartsHoldBehind : Type 0
PartsHoldBehind = (past : List TxnId) (parts : Parts) (history : History) → HasGoneBase parts → RemainsBehind past parts history → HoldsBehind past (engine_over parts) history history

-- After each step an engine stands behind what was gone and, after a cut, behind what this took out as well: of what had been received, and what
-- the step has added to it.
abbrev pub StepsHoldBehind : Type 0
StepsHoldBehind =
    (past : List TxnId) (old new : EngineState) (whole begun : History) (step : Step) (said : StepReply) → StepsTo old step said new → HoldsBehind past old whole begun
    → (ahead : List TxnId) × MovesOn said ahead × HoldsBehind (past ++ ahead) new (whole_after (record { engine = old; whole = whole; asked = begun }) step said) (asked_after (record { engine = old; whole = whole; asked = begun }) step said)

-- An order that it reports explains, behind what is gone, all that had been received when the round began.
abbrev pub ReportedOrdersStandBehind : Type 0
ReportedOrdersStandBehind = (past : List TxnId) (old new : EngineState) (whole begun : History) (step : Step) (report : Report) → StepsTo old step (reply.Report report) new → HoldsBehind past old whole begun → StandsBehind past begun report.certificate

-- Where an engine holds halves, its parts tell of the history as it was offered, behind the begins and commits that are gone, and its snapshot of
-- what had been offered when the round began.
pub record ToldBehind (past : List TxnId) (engine : EngineState) (whole begun : History) : Type 0 where
  pub parts : TellBehind (map event_at past) engine.parts whole
  pub asked : (parts : Parts) → engine.asked ≡ Some parts → TellBehind (map event_at past) parts begun

abbrev pub HalvesAreToldBehind : Type 0
HalvesAreToldBehind = (past : List TxnId) (engine : EngineState) (whole begun : History) → HoldsBehind past engine (split_history whole) (split_history begun) → ToldBehind past engine whole begun

-- An order that an engine of halves reports is, behind the begins and commits that are gone, one of all that had been offered when the round
-- began that is snapshot isolation.
abbrev pub ReportedEventsStandBehind : Type 0
ReportedEventsStandBehind =
    (past : List TxnId) (old new : EngineState) (whole begun : History) (step : Step) (report : Report) → StepsTo old step (reply.Report report) new → HoldsBehind past old (split_history whole) (split_history begun)
    → EventsStandBehind past begun report.certificate
