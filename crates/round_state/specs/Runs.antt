-- Engines that answer legally, whatever whole histories their parts stand for.
use Rattle.std.specs.Prelude.{◌≡◌, ⊤, List, Some}
use Rattle.order_check.specs.declared.remainder.Parts.{Parts}
use Rattle.order_check.specs.Effort.{IsEffort}
use Rattle.order_check.specs.StandsFor.{StandsFor}
use Rattle.round_state.specs.EngineState.{EngineState}
use Rattle.round_state.specs.Legal.{State, Legal, LegalRun}
use Rattle.round_state.specs.declared.steps.Step.{Step}
use Rattle.round_state.specs.declared.steps.Step.TheVariants.{Finish}
use Rattle.round_state.specs.declared.steps.StepReply.{StepReply}

-- The engine is that of the state, and its parts and its snapshot stand for the histories of the state.
pub record Holds (engine : EngineState) (state : State) : Type 0 where
  pub same : state.engine ≡ engine
  pub parts : StandsFor engine.parts state.whole
  pub asked : (parts : Parts) → engine.asked ≡ Some parts → StandsFor parts state.asked

-- Whatever histories the engine stood for, the reply to the step is legal, and the engine after it stands for what the
-- histories have become.
abbrev pub StepsLegally : EngineState → Step → StepReply → EngineState → Type 0
StepsLegally old step reply new = (before : State) → Holds old before → (after : State) × Legal before step reply after × Holds new after

-- The same of a list of steps.
abbrev pub RunsLegally : EngineState → List Step → List StepReply → EngineState → Type 0
RunsLegally old steps replies new = (before : State) → Holds old before → (after : State) × LegalRun before steps replies after × Holds new after

-- the numbers of a step are within their limits
abbrev pub HasLimits : Step → Type 0
HasLimits (Finish budget depth workers) = IsEffort budget depth workers
HasLimits step = ⊤
