use Rattle.std.proofs.Common.{[]}
use Rattle.clock_choices.specs.BranchState.{all_taken, taken_before}
use Rattle.polygraph.proofs.steps.below_last.Goals as goal

pub returns-clause-stands : goal.returns-clause-stands
returns-clause-stands c stands =
    let branch = c.args.branch.now in
    c.in_ok-whole.ensures.stands branch.parts (taken_before branch.log branch.levels) (c.in_ok-put_last.ensures.stands [] (c.of-above.ensures.stands branch.parts (all_taken branch.log branch.levels) stands))
