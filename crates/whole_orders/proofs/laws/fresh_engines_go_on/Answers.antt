use Rattle.whole_orders.proofs.Steps.{fresh_on}
use Rattle.whole_orders.proofs.laws.fresh_engines_go_on.Goals as goal

pub returns : goal.returns
returns c = fresh_on
