use Rattle.whole_orders.proofs.Isolated.{parts_tell}
use Rattle.whole_orders.proofs.laws.split_parts_tell.Goals as goal

pub returns : goal.returns
returns c = parts_tell c.verdict_as_stood_for.ensures c.split_keeps_verdict.ensures c.orders_isolate.ensures
