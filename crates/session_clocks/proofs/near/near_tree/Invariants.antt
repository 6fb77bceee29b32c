use Rattle.session_clocks.specs.Trees.{IsTreeOf}
use Rattle.session_clocks.proofs.near.near_tree.Given as goal

abbrev pub invariant-loop-goes_on : goal.invariant-loop-goes_on
invariant-loop-goes_on l = IsTreeOf l.received l.goal l.arcs l.tops.items l.tree.items

abbrev pub decreases-loop-goes_on : goal.decreases-loop-goes_on
decreases-loop-goes_on l = l.left
