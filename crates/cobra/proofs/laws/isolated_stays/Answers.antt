use Rattle.cobra.proofs.SplitStages.{isolated_stage}
use Rattle.cobra.proofs.laws.isolated_stays.Goals as goal

pub returns : goal.returns
returns c = isolated_stage c.split_engines_stay.ensures
