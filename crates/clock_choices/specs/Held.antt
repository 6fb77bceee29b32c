-- For private clauses: what the relation of parts holds.
use Rattle.std.specs.Prelude.{◌≡◌, ℕ, List, [], length}
use Rattle.txn.specs.declared.choices.Arc.{Arc}
use Rattle.order_check.specs.declared.remainder.Parts.{Parts}
use Rattle.order_check.specs.Cycles.{Sides}
use Rattle.session_clocks.specs.Reach.{Reaches}
use Rattle.clock_choices.specs.declared.steps.Forced.{Forced}
use Rattle.clock_choices.specs.Closed.{AreKnown, IsClosed, IsPlain}
use Rattle.clock_choices.specs.Logging.{IsLoggedFrom}
use Rattle.clock_choices.specs.Over.{IsOver}
use Rattle.clock_choices.specs.Steps.{sides_behind}

-- a graph over what remains of the parts, whose arcs are known where these sides are assumed, lead to all that is there from the start and
-- along the sides taken at the start and by the steps, and leave nothing to force; each of the steps was forced
pub record IsHeldFrom (parts : Parts) (taken start : Sides) (gone received : List ℕ) (arcs : List Arc) (steps : List Forced) : Type 0 where
  pub sessions : length gone ≡ length parts.remain
  pub width : length received ≡ length gone
  pub over : IsOver parts gone received
  pub known : AreKnown parts taken arcs
  pub plain : IsPlain parts (sides_behind start steps) (Reaches gone received arcs)
  pub closed : IsClosed parts (Reaches gone received arcs)
  pub logged : IsLoggedFrom parts start gone received arcs steps

-- the same where none is assumed
abbrev pub IsHeld : Parts → List ℕ → List ℕ → List Arc → List Forced → Type 0
IsHeld parts gone received arcs steps = IsHeldFrom parts [] [] gone received arcs steps
