use Rattle.order_check.proofs.KeptFronts.{itself}
use Rattle.order_check.proofs.front_laws.front_of_itself.Goals as goal

pub returns : goal.returns
returns c = itself
