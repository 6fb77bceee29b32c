use Rattle.std.proofs.Common.{arith}
use Rattle.txn.specs.declared.choices.Choice.{Choice}
use Rattle.log_text.specs.declared.tree_items.TreeItem.TheVariants as node
use Rattle.log_text.specs.Refutations.{choice_of}
use Rattle.log_text.proofs.FormsRead.{one_none, one_over, one_open}
use Rattle.log_text.proofs.tree_tokens.read_split.Goals as goal

pub returns-in_default : goal.returns-in_default
returns-in_default c = one_none (λ (choice : Choice). node.Split choice) (choice_of c.args.names) 1 2 _ _ _ _ (omega arith) c.in_default.is c.in_ok-choice.ensures

pub returns-then-take_end_array : goal.returns-then-take_end_array
returns-then-take_end_array c = one_over (λ (choice : Choice). node.Split choice) (choice_of c.args.names) 1 2 _ _ _ _ _ (omega arith) c.in-Some.is c.in_ok-choice.ensures c.if-take_end_array.ensures

pub returns-else-take_end_array : goal.returns-else-take_end_array
returns-else-take_end_array c = one_open (λ (choice : Choice). node.Split choice) (choice_of c.args.names) 1 2 _ _ _ _ _ (omega arith) c.in-Some.is c.in_ok-choice.ensures c.if-take_end_array.ensures.0
