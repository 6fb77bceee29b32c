use Rattle.whole_orders.proofs.Steps.{left_on}
use Rattle.whole_orders.proofs.laws.left_parts_go_on.Goals as goal

pub returns : goal.returns
returns c = left_on
