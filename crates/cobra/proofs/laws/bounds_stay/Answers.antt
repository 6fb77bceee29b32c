use Rattle.cobra.proofs.Limits.{bounds_stay}
use Rattle.cobra.proofs.laws.bounds_stay.Goals as goal

pub returns : goal.returns
returns c = bounds_stay
