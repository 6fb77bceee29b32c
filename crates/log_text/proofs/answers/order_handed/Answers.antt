use Rattle.std.proofs.Common.{List, arith}
use Rattle.txn.specs.declared.transactions.TxnId.{TxnId}
use Rattle.log_text.specs.declared.answers.Handed.TheVariants as handed
use Rattle.log_text.specs.Items.{list_of}
use Rattle.log_text.specs.Shown.{id_of}
use Rattle.log_text.proofs.FormsRead.{one_none, one_over, one_open}
use Rattle.log_text.proofs.answers.order_handed.Goals as goal

pub returns-in_default : goal.returns-in_default
returns-in_default c = one_none (λ (order : List TxnId). handed.Order order) (list_of (id_of c.args.names)) 2 4 _ _ _ _ (omega arith) c.in_default.is c.in_ok-order.ensures

pub returns-then-take_end_array : goal.returns-then-take_end_array
returns-then-take_end_array c = one_over (λ (order : List TxnId). handed.Order order) (list_of (id_of c.args.names)) 2 4 _ _ _ _ _ (omega arith) c.in-Some.is c.in_ok-order.ensures c.if-take_end_array.ensures

pub returns-else-take_end_array : goal.returns-else-take_end_array
returns-else-take_end_array c = one_open (λ (order : List TxnId). handed.Order order) (list_of (id_of c.args.names)) 2 4 _ _ _ _ _ (omega arith) c.in-Some.is c.in_ok-order.ensures c.if-take_end_array.ensures.0
