use Rattle.order_check.proofs.CutFits.{cuts_fit}
use Rattle.order_check.proofs.cut_laws.cuts_of_fronts_fit.Goals as goal

pub returns : goal.returns
returns c = cuts_fit
