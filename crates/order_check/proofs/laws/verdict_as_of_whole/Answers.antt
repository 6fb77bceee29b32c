use Rattle.order_check.proofs.Whole.{verdict_whole}
use Rattle.order_check.proofs.laws.verdict_as_of_whole.Goals as goal

pub returns : goal.returns
returns c = verdict_whole
