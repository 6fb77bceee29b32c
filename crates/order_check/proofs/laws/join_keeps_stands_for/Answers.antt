use Rattle.order_check.proofs.Whole.{stands_joined}
use Rattle.order_check.proofs.laws.join_keeps_stands_for.Goals as goal

pub returns : goal.returns
returns c = stands_joined
