use Rattle.whole_orders.proofs.CutOff.{cut_left}
use Rattle.whole_orders.proofs.laws.cuts_leave_the_rest_left.Goals as goal

pub returns : goal.returns
returns c = cut_left
