use Rattle.std.proofs.Common.{subst, List}
use Rattle.txn.specs.declared.choices.Choice.{Choice}
use Rattle.refutation.specs.Joining.{IsJoin}
use Rattle.polygraph.specs.Outcomes.{cube_count}
use Rattle.polygraph.proofs.Picking.{trees_joined}
use Rattle.polygraph.proofs.single.joined.Goals as goal

pub returns : goal.returns
returns c =
    let problem = c.args.problem.now in
    trees_joined c.joined_trees_refute.ensures c.joined_depth.ensures problem c.args.depth c.args.share (cube_count problem c.args.depth) c.args.trees.items c.in_ok-tree.tree c.requires.depth c.choices-choices.ensures.problem c.requires.refuted (subst (λ (cs : List Choice). IsJoin cs c.args.trees.items c.in_ok-tree.tree) c.choices-choices.ensures.value c.in_ok-tree.ensures)
