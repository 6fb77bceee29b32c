use Rattle.isolation_histories.proofs.Effects.{split_effects}
use Rattle.isolation_histories.proofs.laws.split_keeps_effects.Goals as goal

pub returns : goal.returns
returns c = split_effects
