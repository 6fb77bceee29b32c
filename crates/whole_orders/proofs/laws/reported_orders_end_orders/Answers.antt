use Rattle.whole_orders.proofs.Steps.{reported_ends}
use Rattle.whole_orders.proofs.laws.reported_orders_end_orders.Goals as goal

pub returns : goal.returns
returns c = reported_ends
