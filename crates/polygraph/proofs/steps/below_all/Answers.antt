use Rattle.clock_choices.specs.BranchState.{all_taken, assumed}
use Rattle.polygraph.proofs.steps.below_all.Goals as goal

pub returns-clause-stands : goal.returns-clause-stands
returns-clause-stands c stands =
    let branch = c.args.branch.now in
    c.in_ok-whole.ensures.stands branch.parts (assumed branch.levels) (c.in_ok-put_all.ensures.stands (c.of-above.ensures.stands branch.parts (all_taken branch.log branch.levels) stands))
