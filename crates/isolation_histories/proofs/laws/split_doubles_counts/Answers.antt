use Rattle.isolation_histories.proofs.Counts.{doubles}
use Rattle.isolation_histories.proofs.laws.split_doubles_counts.Goals as goal

pub returns : goal.returns
returns c = doubles
