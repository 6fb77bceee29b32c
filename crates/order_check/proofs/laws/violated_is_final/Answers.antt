use Rattle.order_check.proofs.Grown.{violated_stays}
use Rattle.order_check.proofs.laws.violated_is_final.Goals as goal

pub returns : goal.returns
returns c = violated_stays
