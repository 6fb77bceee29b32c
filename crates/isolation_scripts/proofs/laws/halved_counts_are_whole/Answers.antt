use Rattle.isolation_scripts.proofs.Told.{halving}
use Rattle.isolation_scripts.proofs.laws.halved_counts_are_whole.Goals as goal

pub returns : goal.returns
returns c = halving
