use Rattle.gone_orders.proofs.Arriving.{arrivals_behind}
use Rattle.gone_orders.proofs.laws.arrivals_stay_behind.Goals as goal

pub returns : goal.returns
returns c = arrivals_behind
