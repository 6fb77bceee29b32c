use Rattle.session_clocks.specs.Trees.{IsTreeOf}
use Rattle.session_clocks.proofs.near.take_all_near.Given as goal

abbrev pub invariant-loop-left : goal.invariant-loop-left
invariant-loop-left l = IsTreeOf l.received l.goal l.arcs l.tops l.tree.items

-- each arc that is looked at lies before the one before
abbrev pub decreases-loop-left : goal.decreases-loop-left
decreases-loop-left l = l.left
