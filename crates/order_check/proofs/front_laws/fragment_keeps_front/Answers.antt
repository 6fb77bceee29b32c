use Rattle.order_check.proofs.KeptFronts.{kept_with}
use Rattle.order_check.proofs.front_laws.fragment_keeps_front.Goals as goal

pub returns : goal.returns
returns c = kept_with
