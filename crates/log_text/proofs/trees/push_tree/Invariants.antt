use Rattle.log_text.specs.Told.{nodes_data}
use Rattle.log_text.specs.Waiting.{ComeTo, waiting_weight}
use Rattle.log_text.proofs.trees.push_tree.Given as goal

abbrev pub invariant-loop-next : goal.invariant-loop-next
invariant-loop-next l = ComeTo l.names l.list.items l.waiting.items (nodes_data l.names l.tree)

abbrev pub decreases-loop-next : goal.decreases-loop-next
decreases-loop-next l = waiting_weight l.waiting.items
