use Rattle.engine_pasts.proofs.Steps.{parts_behind}
use Rattle.engine_pasts.proofs.laws.parts_hold_behind.Goals as goal

pub returns : goal.returns
returns c = parts_behind c.left_parts_go_on.ensures c.arrivals_stay_behind.ensures c.orders_behind_are_of_the_whole.ensures
