use Rattle.order_check.proofs.CutGood.{good_left}
use Rattle.order_check.proofs.cut_laws.cut_keeps_good.Goals as goal

pub returns : goal.returns
returns c = good_left
