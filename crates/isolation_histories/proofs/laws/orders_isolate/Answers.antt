use Rattle.isolation_histories.proofs.Isolation.{events_isolate}
use Rattle.isolation_histories.proofs.laws.orders_isolate.Goals as goal

pub returns : goal.returns
returns c = events_isolate
