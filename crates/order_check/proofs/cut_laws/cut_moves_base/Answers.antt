use Rattle.order_check.proofs.CutKnown.{moves_base}
use Rattle.order_check.proofs.cut_laws.cut_moves_base.Goals as goal

pub returns : goal.returns
returns c = moves_base
