use Rattle.strict_histories.proofs.Refuting.{no_strict_order}
use Rattle.strict_histories.proofs.refuted.refuted_has_no_strict_order.Goals as goal

pub returns : goal.returns
returns c = no_strict_order c.orders_as_of_whole.ensures c.refuted_has_no_order.ensures
