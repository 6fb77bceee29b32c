use Rattle.engine_pasts.proofs.Steps.{fresh_behind}
use Rattle.engine_pasts.proofs.laws.fresh_engines_hold_behind.Goals as goal

pub returns : goal.returns
returns c = fresh_behind c.fresh_engines_go_on.ensures c.bare_parts_stay_behind.ensures
