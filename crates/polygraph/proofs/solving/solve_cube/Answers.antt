use Rattle.std.proofs.Common.{ap, [], List, ◌∙◌}
use Rattle.txn.specs.declared.choices.Choice.{Choice}
use Rattle.refutation.specs.Joining.{cube_sides}
use Rattle.clock_choices.specs.SaturatedState.{SaturatedState}
use Rattle.polygraph.proofs.CubeBounds.{told_of_cube, spent_of_cube}
use Rattle.polygraph.proofs.solving.solve_cube.Goals as goal

pub returns-clause-told : goal.returns-clause-told
returns-clause-told c =
    let problem = c.args.problem.now in
    let parts = c.in_ok-branch.ensures.parts ∙ ap (λ (known : SaturatedState). known.parts) c.known.ensures in
    let sides = c.in_ok-branch.ensures.sides ∙ ap (λ (cs : List Choice). cube_sides cs c.args.cube []) c.choices-choices.ensures.value in
    told_of_cube problem c.args.depth c.args.cube c.args.share c.in_ok-branch.branch c.in_ok-found.found parts sides c.in_ok-found.ensures.scans c.in_ok-found.ensures.sides c.in_ok-found.ensures.shown

pub returns-clause-spent : goal.returns-clause-spent
returns-clause-spent c =
    spent_of_cube c.scans_are_bounded.ensures c.args.problem.now c.args.depth c.args.cube c.args.share c.in_ok-found.found c.requires.depth c.ranges.share.fits c.choices-choices.ensures.problem (returns-clause-told c)
