use Rattle.std.proofs.Common.{ap, arith, length}
use Rattle.std.proofs.lemmas.List.{length-map}
use Rattle.clock_choices.specs.BranchState.{last_steps}
use Rattle.clock_choices.specs.Steps.{bare}
use Rattle.polygraph.proofs.StepsAbove.{step_read}
use Rattle.polygraph.proofs.steps.last_step.Goals as goal

pub bounds-steps-place : goal.bounds-steps-place
bounds-steps-place c =
    let long = ap length c.steps.ensures in
    let same = length-map c.steps.result.now bare in
    omega (arith, long, same, c.requires)

pub returns : goal.returns
returns c = step_read (last_steps c.args.branch.now.log c.args.branch.now.levels) c.steps.result.now c.args.place _ c.steps.ensures c.requires
