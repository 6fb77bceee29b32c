use Rattle.gone_orders.proofs.Arriving.{content_behind}
use Rattle.gone_orders.proofs.laws.content_stays_behind.Goals as goal

pub returns : goal.returns
returns c = content_behind
