-- Parts that are what is left of a whole history, so that each order of theirs is the end of one of the whole.
use Rattle.std.specs.Prelude.{◌≡◌, ⊤, List, ◌++◌, length, Some}
use Rattle.txn.specs.declared.transactions.TxnId.{TxnId}
use Rattle.txn.specs.History.{History}
use Rattle.order_check.specs.declared.remainder.Parts.{Parts}
use Rattle.order_check.specs.Based.{HasGoneBase}
use Rattle.order_check.specs.Cuts.{IsKeptFront}
use Rattle.order_check.specs.Explains.{Explains}
use Rattle.order_check.specs.Settled.{IsCutAt, IsSettled}
use Rattle.order_check.specs.StandsFor.{Arrival, IsOpenSession, history_then, parts_then}
use Rattle.order_check.specs.Verdict.{HasOrder}
use Rattle.order_check.specs.Whole.{ExplainsWhole}
use Rattle.settle.specs.declared.cuts.Cut.{Cut}
use Rattle.round_state.specs.EngineState.{EngineState}
use Rattle.round_state.specs.declared.reports.Certificate.{Certificate}
use Rattle.round_state.specs.declared.reports.Certificate.TheVariants.{Order, Refuted, Nothing}

-- The order is the end of one that explains the whole history: put behind some order of the rest, it explains all of it.
abbrev pub EndsOrder : History → List TxnId → Type 0
EndsOrder history order = (past : List TxnId) × ExplainsWhole history (past ++ order)

-- The parts are what is left of the history behind this order of what is gone: whatever arrives from now on, the gone in this order, and behind
-- them any order that explains the parts with it, explain the history with it.
pub record IsLeftBehind (past : List TxnId) (parts : Parts) (history : History) : Type 0 where
  pub sessions : length history ≡ length parts.remain
  pub future : (more : List Arrival) (order : List TxnId) → Explains (parts_then parts more) order → ExplainsWhole (history_then history more) (past ++ order)

-- they are what is left behind some order of what is gone
abbrev pub IsLeftOf : Parts → History → Type 0
IsLeftOf parts history = (past : List TxnId) × IsLeftBehind past parts history

-- The cut was found in a front of the parts that some order explains, at a fence that is settled there.
pub record WasFoundIn (parts : Parts) (cut : Cut) : Type 0 where
  pub front : Parts
  pub kept : IsKeptFront front parts
  pub order : HasOrder front
  pub settled : IsSettled front (IsOpenSession front) cut.fence
  pub cut_at : IsCutAt front cut.fence cut.gone cut.last

-- What the engine holds is what is left of the whole history, and its snapshot is what was left of what had been received when the round began.
-- The rest says of the engine alone that it may go on so: that each last gone writer is gone, that the snapshot is a front of the parts, and that
-- the cut that is held was found in one.
pub record HoldsLeft (engine : EngineState) (whole begun : History) : Type 0 where
  pub parts : IsLeftOf engine.parts whole
  pub asked : (parts : Parts) → engine.asked ≡ Some parts → IsLeftOf parts begun
  pub base : HasGoneBase engine.parts
  pub kept : (parts : Parts) → engine.asked ≡ Some parts → IsKeptFront parts engine.parts
  pub held : (cut : Cut) → engine.held ≡ Some cut → WasFoundIn engine.parts cut

-- a certificate's order, where it has one, is the end of one that explains the history
abbrev pub EndsOrderIfAny : History → Certificate → Type 0
EndsOrderIfAny history (Order order) = EndsOrder history order
EndsOrderIfAny history (Refuted tree) = ⊤
EndsOrderIfAny history Nothing = ⊤
