use Rattle.order_check.proofs.CountedFronts.{kept_is_counted}
use Rattle.order_check.proofs.front_laws.kept_fronts_are_counted.Goals as goal

pub returns : goal.returns
returns c = kept_is_counted
