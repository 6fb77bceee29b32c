use Rattle.strict_histories.proofs.Lookups.{strict_at}
use Rattle.strict_histories.proofs.laws.rewriting_goes_by_place.Goals as goal

pub returns : goal.returns
returns c = strict_at
