use Rattle.isolation_histories.proofs.Isolation.{kept_as_explained}
use Rattle.isolation_histories.proofs.laws.split_keeps_isolation.Goals as goal

pub returns : goal.returns
returns c = kept_as_explained
