use Rattle.strict_histories.proofs.Orders.{same_orders}
use Rattle.strict_histories.proofs.laws.same_orders_rewritten.Goals as goal

pub returns : goal.returns
returns c = same_orders
