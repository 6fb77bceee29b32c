use Rattle.order_check.proofs.Whole.{stands_bare}
use Rattle.order_check.proofs.laws.stands_for_what_remains.Goals as goal

pub returns : goal.returns
returns c = stands_bare
