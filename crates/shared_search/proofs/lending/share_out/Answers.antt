use Rattle.std.proofs.Common.{◌^◌, ◌∙◌, ◌≤◌, ℕ, List, length, ap, arith}
use Rattle.std.proofs.Math.Pow.{pow_mono}
use Rattle.std.proofs.lemmas.List.{length-take}
use Rattle.std.proofs.lemmas.Nat.{pow_pos}
use Rattle.txn.specs.declared.choices.Choice.{Choice}
use Rattle.polygraph.specs.Outcomes.{split_choices}
use Rattle.shared_search.proofs.Lawful.{both_laws}
use Rattle.shared_search.proofs.lending.share_out.Goals as goal

pub solve_all-requires-clause-cubes : goal.solve_all-requires-clause-cubes
solve_all-requires-clause-cubes g c κs within =
    let count = c.count_cubes-cubes.ensures ∙ ap (λ (cs : List Choice). 2 ^ length cs) c.choices-choices.ensures.value in
    let e : ℕ = length (split_choices c.args.problem.now c.args.depth) in
    let size = length-take c.args.depth c.args.problem.now.first in
    let depth = c.requires.effort.low_depth in
    let few : e ≤ 6 = omega (arith, size, depth) in
    let low : 2 ^ e ≤ 2 ^ 6 = pow_mono few in
    let some = pow_pos e in
    (count, omega (arith, count, some), omega (arith, count, low))

pub returns-clause-lawful : goal.returns-clause-lawful
returns-clause-lawful g c =
    let count = c.count_cubes-cubes.ensures ∙ ap (λ (cs : List Choice). 2 ^ length cs) c.choices-choices.ensures.value in
    (both_laws c.scans_find_one.ensures c.joined_trees_refute.ensures c.joined_depth.ensures c.args.problem.now c.args.budget c.args.depth _ _ c.requires.effort.low_depth c.choices-choices.ensures.problem count c.solve_all.ensures).0

pub returns-clause-picked : goal.returns-clause-picked
returns-clause-picked g c =
    let count = c.count_cubes-cubes.ensures ∙ ap (λ (cs : List Choice). 2 ^ length cs) c.choices-choices.ensures.value in
    (both_laws c.scans_find_one.ensures c.joined_trees_refute.ensures c.joined_depth.ensures c.args.problem.now c.args.budget c.args.depth _ _ c.requires.effort.low_depth c.choices-choices.ensures.problem count c.solve_all.ensures).1
