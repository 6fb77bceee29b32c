use Rattle.std.proofs.Common.{map, take}
use Rattle.log_text.specs.Saved.{GainsData}
use Rattle.log_text.specs.Told.{step_data}
use Rattle.log_text.proofs.trees.push_steps.Given as goal

abbrev pub invariant-loop-step : goal.invariant-loop-step
invariant-loop-step l = GainsData l.initial.items.items l.items.items (map (step_data l.names) (take l.step-index l.steps))
