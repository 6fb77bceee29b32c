use Rattle.gone_orders.proofs.Cut.{moves_on}
use Rattle.gone_orders.proofs.laws.cuts_move_on.Goals as goal

pub returns : goal.returns
returns c = moves_on
