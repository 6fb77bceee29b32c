use Rattle.engine_pasts.proofs.Reports.{events_behind}
use Rattle.engine_pasts.proofs.laws.reported_events_stand_behind.Goals as goal

pub returns : goal.returns
returns c = events_behind c.orders_behind_are_of_the_whole.ensures c.orders_isolate.ensures
