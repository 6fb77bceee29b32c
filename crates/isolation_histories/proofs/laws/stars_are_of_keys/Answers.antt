use Rattle.isolation_histories.proofs.Lookups.{key_of_star}
use Rattle.isolation_histories.proofs.laws.stars_are_of_keys.Goals as goal

pub returns : goal.returns
returns c = key_of_star
