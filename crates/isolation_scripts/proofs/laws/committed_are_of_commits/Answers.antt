use Rattle.isolation_scripts.proofs.Told.{committed_has}
use Rattle.isolation_scripts.proofs.laws.committed_are_of_commits.Goals as goal

pub returns : goal.returns
returns c = committed_has
