use Rattle.isolation_histories.proofs.WellFormedSplit.{fences_split}
use Rattle.isolation_histories.proofs.laws.split_keeps_fences.Goals as goal

pub returns : goal.returns
returns c = fences_split
