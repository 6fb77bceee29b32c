use Rattle.isolation_histories.proofs.Coming.{still_can}
use Rattle.isolation_histories.proofs.laws.arrivals_can_be_split.Goals as goal

pub returns : goal.returns
returns c = still_can
