use Rattle.order_check.proofs.CutKnown.{leaves_rest}
use Rattle.order_check.proofs.cut_laws.cut_leaves_the_rest.Goals as goal

pub returns : goal.returns
returns c = leaves_rest
