use Rattle.strict_histories.proofs.Pending.{pending_kept}
use Rattle.strict_histories.proofs.laws.rewriting_keeps_pending.Goals as goal

pub returns : goal.returns
returns c = pending_kept
