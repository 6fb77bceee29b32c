use Rattle.std.specs.VecDeque.{deque_len}
use Rattle.shared_search.specs.Gathered.{IsFilled}
use Rattle.shared_search.proofs.picking.fill.Given as goal

abbrev pub invariant-loop-n : goal.invariant-loop-n
invariant-loop-n l = IsFilled l.count l.fn.outcomes.items l.outcomes.items l.table.items

abbrev pub decreases-loop-n : goal.decreases-loop-n
decreases-loop-n l = deque_len l.outcomes
