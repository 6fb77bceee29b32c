use Rattle.engine_pasts.proofs.Reports.{told_behind}
use Rattle.engine_pasts.proofs.laws.halves_are_told_behind.Goals as goal

pub returns : goal.returns
returns c = told_behind c.halves_tell_behind.ensures
