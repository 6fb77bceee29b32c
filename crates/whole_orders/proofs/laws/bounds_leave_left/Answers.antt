use Rattle.whole_orders.proofs.Steps.{bounds_left}
use Rattle.whole_orders.proofs.laws.bounds_leave_left.Goals as goal

pub returns : goal.returns
returns c = bounds_left
