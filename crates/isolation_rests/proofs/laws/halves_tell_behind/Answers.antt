use Rattle.isolation_rests.proofs.Telling.{tell_behind}
use Rattle.isolation_rests.proofs.laws.halves_tell_behind.Goals as goal

pub returns : goal.returns
returns c = tell_behind c.orders_behind_are_of_the_whole.ensures c.unwritten_keys_have_no_last.ensures c.orders_isolate.ensures c.events_explain.ensures
