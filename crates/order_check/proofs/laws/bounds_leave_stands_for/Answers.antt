use Rattle.order_check.proofs.Closing.{stands_bounded}
use Rattle.order_check.proofs.laws.bounds_leave_stands_for.Goals as goal

pub returns : goal.returns
returns c = stands_bounded
