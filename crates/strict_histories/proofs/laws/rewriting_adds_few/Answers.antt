use Rattle.strict_histories.proofs.Sizes.{few_added}
use Rattle.strict_histories.proofs.laws.rewriting_adds_few.Goals as goal

pub returns : goal.returns
returns c = few_added
