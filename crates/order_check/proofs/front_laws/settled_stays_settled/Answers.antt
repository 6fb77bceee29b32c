use Rattle.order_check.proofs.KeptFronts.{settled_still}
use Rattle.order_check.proofs.front_laws.settled_stays_settled.Goals as goal

pub returns : goal.returns
returns c = settled_still
