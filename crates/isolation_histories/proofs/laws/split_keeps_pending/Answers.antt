use Rattle.isolation_histories.proofs.Pending.{pending_as_split}
use Rattle.isolation_histories.proofs.laws.split_keeps_pending.Goals as goal

pub returns : goal.returns
returns c = pending_as_split
