use Rattle.order_check.proofs.KeptFronts.{kept_closed}
use Rattle.order_check.proofs.front_laws.close_keeps_front.Goals as goal

pub returns : goal.returns
returns c = kept_closed
