use Rattle.log_text.proofs.BuiltTrees.{IsBuilding}
use Rattle.log_text.proofs.building.tree_of_items.Given as goal

abbrev pub invariant-loop-item : goal.invariant-loop-item
invariant-loop-item l = IsBuilding l.fn.items.items l.items.items l.built.front l.built.behind.items

abbrev pub decreases-loop-item : goal.decreases-loop-item
decreases-loop-item l = l.items.len
