use Rattle.engine_pasts.proofs.Reports.{reported_behind}
use Rattle.engine_pasts.proofs.laws.reported_orders_stand_behind.Goals as goal

pub returns : goal.returns
returns c = reported_behind c.orders_behind_are_of_the_whole.ensures
