use Rattle.std.proofs.Common.{sym, subst, ◌+◌, List}
use Rattle.refutation.specs.declared.trees.Tree.{Tree}
use Rattle.polygraph.specs.SoFar.{IsSoFar}
use Rattle.polygraph.proofs.Picking.{so_far_no, so_far_spent}
use Rattle.polygraph.proofs.single.search_next.Goals as goal

pub returns-in_ok-push-in-No : goal.returns-in_ok-push-in-No
returns-in_ok-push-in-No c =
    let told = rw c.in-No.is at c.in_ok-order.ensures.told in
    let far = so_far_no c.scans_find_one.ensures c.args.problem.now c.args.depth c.args.share c.args.cube c.args.trees.now.items c.args.spent.now c.in-No.tree c.requires.so_far told.0 told.1 in
    subst (λ (trees : List Tree). IsSoFar c.args.problem.now c.args.depth c.args.share (c.args.cube + 1) trees c.args.spent.now) (sym c.in_ok-push-in-No.ensures.items) far

pub returns-in-Spent : goal.returns-in-Spent
returns-in-Spent c =
    let told = rw c.in-Spent.is at c.in_ok-order.ensures.told in
    so_far_spent c.scans_find_one.ensures c.args.problem.now c.args.depth c.args.share c.args.cube c.args.trees.now.items c.args.spent.now c.requires.so_far told (c.in_ok-order.ensures.spent c.in-Spent.is)
