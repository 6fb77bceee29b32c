use Rattle.std.proofs.Common.{List, arith}
use Rattle.txn.specs.declared.choices.Arc.{Arc}
use Rattle.refutation.specs.declared.trees.Leaf.TheVariants as leaf
use Rattle.log_text.specs.declared.tree_items.TreeItem.TheVariants as node
use Rattle.log_text.specs.Items.{list_of}
use Rattle.log_text.specs.Refutations.{arc_of}
use Rattle.log_text.proofs.FormsRead.{one_none, one_over, one_open}
use Rattle.log_text.proofs.tree_tokens.read_cycle_leaf.Goals as goal

pub returns-in_default : goal.returns-in_default
returns-in_default c = one_none (λ (arcs : List Arc). node.Close (leaf.Cycle arcs)) (list_of (arc_of c.args.names)) 2 2 _ _ _ _ (omega arith) c.in_default.is c.in_ok-arcs.ensures

pub returns-then-take_end_array : goal.returns-then-take_end_array
returns-then-take_end_array c = one_over (λ (arcs : List Arc). node.Close (leaf.Cycle arcs)) (list_of (arc_of c.args.names)) 2 2 _ _ _ _ _ (omega arith) c.in-Some.is c.in_ok-arcs.ensures c.if-take_end_array.ensures

pub returns-else-take_end_array : goal.returns-else-take_end_array
returns-else-take_end_array c = one_open (λ (arcs : List Arc). node.Close (leaf.Cycle arcs)) (list_of (arc_of c.args.names)) 2 2 _ _ _ _ _ (omega arith) c.in-Some.is c.in_ok-arcs.ensures c.if-take_end_array.ensures.0
