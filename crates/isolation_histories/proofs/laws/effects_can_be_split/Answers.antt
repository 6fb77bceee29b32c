use Rattle.isolation_histories.proofs.Effects.{effects_splittable}
use Rattle.isolation_histories.proofs.laws.effects_can_be_split.Goals as goal

pub returns : goal.returns
returns c = effects_splittable
