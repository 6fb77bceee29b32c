-- Engines that stand behind an order of what is gone.
use Rattle.std.specs.Prelude.{◌≡◌, ◌↔◌, ⊤, List, [], ◌++◌, Contains, Some, map}
use Rattle.txn.specs.declared.transactions.TxnId.{TxnId}
use Rattle.txn.specs.History.{History}
use Rattle.order_check.specs.declared.remainder.Parts.{Parts}
use Rattle.order_check.specs.Whole.{ExplainsWhole}
use Rattle.round_state.specs.EngineState.{EngineState}
use Rattle.round_state.specs.declared.reports.Certificate.{Certificate}
use Rattle.round_state.specs.declared.reports.Certificate.TheVariants.{Order, Refuted, Nothing}
use Rattle.round_state.specs.declared.steps.StepReply.{StepReply}
use Rattle.round_state.specs.declared.steps.StepReply.TheVariants as reply
use Rattle.isolation_histories.specs.Halves.{event_at}
use Rattle.gone_orders.specs.Behind.{RemainsBehind}
use Rattle.isolation_rests.specs.Behind.{KeepsBehind}
use Rattle.whole_orders.specs.Left.{HoldsLeft}

-- What the engine holds remains of the whole history behind what is gone, in this order, and its snapshot of what had been received when the
-- round began, behind the same.
pub record HoldsBehind (past : List TxnId) (engine : EngineState) (whole begun : History) : Type 0 where
  pub left : HoldsLeft engine whole begun
  pub parts : RemainsBehind past engine.parts whole
  pub asked : (parts : Parts) → engine.asked ≡ Some parts → RemainsBehind past parts begun

-- What a reply puts behind what is gone: a cut the ids that it tells, in some order, and any other reply nothing.
abbrev pub MovesOn : StepReply → List TxnId → Type 0
MovesOn (reply.Cut cut) ahead = (id : TxnId) → Contains ahead id ↔ Contains cut.gone id
MovesOn said ahead = ahead ≡ []

-- A certificate's order, where it has one, explains the history behind what is gone.
abbrev pub StandsBehind : List TxnId → History → Certificate → Type 0
StandsBehind past history (Order order) = ExplainsWhole history (past ++ order)
StandsBehind past history (Refuted tree) = ⊤
StandsBehind past history Nothing = ⊤

-- Where it is an order of halves: read as begins and commits it is, behind those that are gone, one of the history as it was offered that is
-- snapshot isolation.
abbrev pub EventsStandBehind : List TxnId → History → Certificate → Type 0
EventsStandBehind past history (Order order) = KeepsBehind history (map event_at past) (map event_at order)
EventsStandBehind past history (Refuted tree) = ⊤
EventsStandBehind past history Nothing = ⊤
