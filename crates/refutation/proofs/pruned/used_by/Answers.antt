use Rattle.refutation.proofs.PrunedTrees.{cycle_uses}
use Rattle.refutation.proofs.pruned.used_by.Goals as goal

pub returns-in_ok-add_arcs-in-Cycle : goal.returns-in_ok-add_arcs-in-Cycle
returns-in_ok-add_arcs-in-Cycle c parts taken closed =
    let notes = rw (c.none-used.ensures, c.as_slice.ensures) at c.in_ok-add_arcs-in-Cycle.ensures in
    rw c.in-Cycle.is (cycle_uses parts taken c.add_arcs.new.self c.in-Cycle.arcs notes (rw c.in-Cycle.is at closed))
