use Rattle.std.proofs.Common.{List, arith}
use Rattle.log_text.specs.declared.tree_items.TreeItem.{TreeItem}
use Rattle.log_text.specs.declared.answers.Handed.TheVariants as handed
use Rattle.log_text.specs.Owed.{tree_list}
use Rattle.log_text.proofs.FormsRead.{one_none, one_over, one_open}
use Rattle.log_text.proofs.answers.nodes_handed.Goals as goal

pub returns-in_default : goal.returns-in_default
returns-in_default c = one_none (λ (nodes : List TreeItem). handed.Nodes nodes) (tree_list c.args.names) 4 4 _ _ _ _ (omega arith) c.in_default.is c.in_ok-nodes.ensures

pub returns-then-take_end_array : goal.returns-then-take_end_array
returns-then-take_end_array c = one_over (λ (nodes : List TreeItem). handed.Nodes nodes) (tree_list c.args.names) 4 4 _ _ _ _ _ (omega arith) c.in-Some.is c.in_ok-nodes.ensures c.if-take_end_array.ensures

pub returns-else-take_end_array : goal.returns-else-take_end_array
returns-else-take_end_array c = one_open (λ (nodes : List TreeItem). handed.Nodes nodes) (tree_list c.args.names) 4 4 _ _ _ _ _ (omega arith) c.in-Some.is c.in_ok-nodes.ensures c.if-take_end_array.ensures.0
