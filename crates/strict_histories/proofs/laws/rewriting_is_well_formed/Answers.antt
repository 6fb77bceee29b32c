use Rattle.strict_histories.proofs.WellFormed.{well_formed}
use Rattle.strict_histories.proofs.laws.rewriting_is_well_formed.Goals as goal

pub returns : goal.returns
returns c = well_formed
