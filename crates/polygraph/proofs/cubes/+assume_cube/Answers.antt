use Rattle.std.proofs.Common.{arith, rules}
use Rattle.polygraph.proofs.StepsAbove.{more_choices}
use Rattle.polygraph.proofs.cubes.+assume_cube.Goals as goal

pub assume_cube-requires : goal.assume_cube-requires
assume_cube-requires t c =
    let longer = c.in-Some.ensures.cases.1 in
    (search rules, (omega arith, more_choices _ c.assume_side.new.branch.parts c.args.choices.now c.in-Some.more.now c.in-Some.choice.now c.in-Some.ensures.cases.0 c.in_ok-assume_side.ensures.parts c.requires.choices))

pub assume_cube-requires-else-cube-half : goal.assume_cube-requires-else-cube-half
assume_cube-requires-else-cube-half t c =
    let longer = c.in-Some.ensures.cases.1 in
    (search rules, (omega arith, more_choices _ c.assume_side-else-cube-half.new.branch.parts c.args.choices.now c.in-Some.more.now c.in-Some.choice.now c.in-Some.ensures.cases.0 c.in_ok-assume_side-2.ensures.parts c.requires.choices))
