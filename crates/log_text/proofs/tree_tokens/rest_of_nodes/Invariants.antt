use Rattle.std.proofs.Common.{◌+◌, ◌≤◌, length}
use Rattle.log_text.specs.Owed.{NodesSoFar}
use Rattle.log_text.proofs.tree_tokens.rest_of_nodes.Given as goal

abbrev pub invariant-loop-alloc : goal.invariant-loop-alloc
invariant-loop-alloc l = NodesSoFar l.names l.initial.reader l.nodes.items l.owed l.reader × (l.owed ≤ length l.nodes.items + 1)

abbrev pub decreases-loop-alloc : goal.decreases-loop-alloc
decreases-loop-alloc l = length l.reader
