use Rattle.isolation_scripts.proofs.Fresh.{fresh_split}
use Rattle.isolation_scripts.proofs.laws.fresh_engines_are_split.Goals as goal

pub returns : goal.returns
returns c = fresh_split
