use Rattle.order_check.proofs.Closing.{stands_closed}
use Rattle.order_check.proofs.laws.close_keeps_stands_for.Goals as goal

pub returns : goal.returns
returns c = stands_closed
