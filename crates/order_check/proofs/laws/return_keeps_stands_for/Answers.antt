use Rattle.order_check.proofs.Whole.{stands_returned}
use Rattle.order_check.proofs.laws.return_keeps_stands_for.Goals as goal

pub returns : goal.returns
returns c = stands_returned
