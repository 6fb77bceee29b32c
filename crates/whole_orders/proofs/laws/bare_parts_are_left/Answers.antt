use Rattle.whole_orders.proofs.CutOff.{bare_left}
use Rattle.whole_orders.proofs.laws.bare_parts_are_left.Goals as goal

pub returns : goal.returns
returns c = bare_left
