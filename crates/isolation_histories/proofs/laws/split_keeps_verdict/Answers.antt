use Rattle.isolation_histories.proofs.Pending.{verdict_as_split}
use Rattle.isolation_histories.proofs.laws.split_keeps_verdict.Goals as goal

pub returns : goal.returns
returns c = verdict_as_split
