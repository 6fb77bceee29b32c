use Rattle.order_check.proofs.Whole.{explains_whole}
use Rattle.order_check.proofs.laws.orders_as_of_whole.Goals as goal

pub returns : goal.returns
returns c = explains_whole
