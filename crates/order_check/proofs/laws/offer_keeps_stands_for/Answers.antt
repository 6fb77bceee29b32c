use Rattle.order_check.proofs.Whole.{stands_with}
use Rattle.order_check.proofs.laws.offer_keeps_stands_for.Goals as goal

pub returns : goal.returns
returns c = stands_with
