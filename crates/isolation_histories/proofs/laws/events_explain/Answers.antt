use Rattle.isolation_histories.proofs.Isolation.{explains_split}
use Rattle.isolation_histories.proofs.laws.events_explain.Goals as goal

pub returns : goal.returns
returns c = explains_split
