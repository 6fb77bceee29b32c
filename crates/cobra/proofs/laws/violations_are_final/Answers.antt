use Rattle.cobra.proofs.FinalVerdicts.{are_final}
use Rattle.cobra.proofs.laws.violations_are_final.Goals as goal

pub returns : goal.returns
returns c = are_final
