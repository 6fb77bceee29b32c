use Rattle.gone_orders.proofs.Orders.{unwritten}
use Rattle.gone_orders.proofs.laws.unwritten_keys_have_no_last.Goals as goal

pub returns : goal.returns
returns c = unwritten
