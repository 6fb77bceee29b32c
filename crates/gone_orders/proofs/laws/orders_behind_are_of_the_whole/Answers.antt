use Rattle.gone_orders.proofs.Orders.{orders_behind}
use Rattle.gone_orders.proofs.laws.orders_behind_are_of_the_whole.Goals as goal

pub returns : goal.returns
returns c = orders_behind
