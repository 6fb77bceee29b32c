use Rattle.order_check.proofs.Whole.{verdict_of_whole}
use Rattle.order_check.proofs.laws.verdict_as_stood_for.Goals as goal

pub returns : goal.returns
returns c = verdict_of_whole
