use Rattle.isolation_histories.proofs.Arrivals.{split_with_arrival}
use Rattle.isolation_histories.proofs.laws.split_goes_with_arrivals.Goals as goal

pub returns : goal.returns
returns c = split_with_arrival
