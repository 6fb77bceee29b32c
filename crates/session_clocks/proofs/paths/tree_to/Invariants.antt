use Rattle.std.proofs.Common.{◌≡◌, ◌+◌, ◌*◌, false, if◌then◌else◌}
use Rattle.session_clocks.specs.Trees.{IsTreeOf, IsWhole, rooms}
use Rattle.session_clocks.proofs.paths.tree_to.Given as goal

abbrev pub invariant-loop-goes_on : goal.invariant-loop-goes_on
invariant-loop-goes_on l = record {
  tree : IsTreeOf l.received l.goal l.arcs l.tops.items l.tree.items;
  whole : l.goes_on ≡ false → IsWhole l.goal l.tops.items l.arcs;
}

-- each time round but the last raises a number, and none is raised above how many were received
abbrev pub decreases-loop-goes_on : goal.decreases-loop-goes_on
decreases-loop-goes_on l = rooms l.received l.tops.items * 2 + (if l.goes_on then 1 else 0)
