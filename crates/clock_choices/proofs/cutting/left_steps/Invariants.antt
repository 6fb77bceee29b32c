use Rattle.std.proofs.Common.{◌≡◌, take}
use Rattle.clock_choices.specs.LeftSteps.{IsCount, steps_left}
use Rattle.clock_choices.proofs.cutting.left_steps.Given as goal

abbrev pub invariant-loop-step : goal.invariant-loop-step
invariant-loop-step l = record {
  found : l.found.items ≡ steps_left l.parts l.left l.arcs (take l.step-index l.steps);
  count : IsCount l.left l.arcs l.count;
}
