use Rattle.strict_histories.proofs.Sizes.{counts_kept}
use Rattle.strict_histories.proofs.laws.rewriting_keeps_counts.Goals as goal

pub returns : goal.returns
returns c = counts_kept
