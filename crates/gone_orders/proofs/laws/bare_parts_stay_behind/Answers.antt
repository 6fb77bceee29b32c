use Rattle.gone_orders.proofs.Arriving.{bare_behind}
use Rattle.gone_orders.proofs.laws.bare_parts_stay_behind.Goals as goal

pub returns : goal.returns
returns c = bare_behind
