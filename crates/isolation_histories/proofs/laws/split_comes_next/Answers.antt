use Rattle.isolation_histories.proofs.Coming.{split_comes_next}
use Rattle.isolation_histories.proofs.laws.split_comes_next.Goals as goal

pub returns : goal.returns
returns c = split_comes_next
