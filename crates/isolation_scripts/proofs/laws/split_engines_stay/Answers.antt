use Rattle.isolation_scripts.proofs.EnginesStay.{stay}
use Rattle.isolation_scripts.proofs.laws.split_engines_stay.Goals as goal

pub returns : goal.returns
returns c = stay c.split_keeps_effects.ensures c.effects_can_be_split.ensures
