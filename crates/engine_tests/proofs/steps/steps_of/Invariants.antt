-- the numbers of the steps so far are within their limits
use Rattle.std.proofs.Common.{All}
use Rattle.round_state.specs.Runs.{HasLimits}
use Rattle.engine_tests.proofs.steps.steps_of.Given as goal

abbrev pub invariant-loop-act : goal.invariant-loop-act
invariant-loop-act l = All HasLimits l.steps.items
