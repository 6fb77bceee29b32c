use Rattle.strict_histories.proofs.Pending.{verdict_kept}
use Rattle.strict_histories.proofs.laws.rewriting_keeps_verdict.Goals as goal

pub returns : goal.returns
returns c = verdict_kept
