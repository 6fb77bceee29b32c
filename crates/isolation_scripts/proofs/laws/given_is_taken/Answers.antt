use Rattle.isolation_scripts.proofs.GivenBack.{given_back}
use Rattle.isolation_scripts.proofs.laws.given_is_taken.Goals as goal

pub returns : goal.returns
returns c = given_back
