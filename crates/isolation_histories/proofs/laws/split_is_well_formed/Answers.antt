use Rattle.isolation_histories.proofs.WellFormedSplit.{split_formed}
use Rattle.isolation_histories.proofs.laws.split_is_well_formed.Goals as goal

pub returns : goal.returns
returns c = split_formed
