use Rattle.isolation_scripts.proofs.Fresh.{nothing_is_split}
use Rattle.isolation_scripts.proofs.laws.nothing_is_split.Goals as goal

pub returns : goal.returns
returns c = nothing_is_split
