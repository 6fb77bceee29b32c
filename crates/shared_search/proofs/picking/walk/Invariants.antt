use Rattle.std.specs.VecDeque.{deque_len}
use Rattle.shared_search.specs.Gathered.{IsWalked}
use Rattle.shared_search.proofs.picking.walk.Given as goal

abbrev pub invariant-loop-slot : goal.invariant-loop-slot
invariant-loop-slot l = IsWalked l.fn.table.items l.table.items l.spent l.trees.items

abbrev pub decreases-loop-slot : goal.decreases-loop-slot
decreases-loop-slot l = deque_len l.table
