use Rattle.order_check.proofs.CutKnown.{keeps_known}
use Rattle.order_check.proofs.cut_laws.cut_keeps_known.Goals as goal

pub returns : goal.returns
returns c = keeps_known
