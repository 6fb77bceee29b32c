use Rattle.order_check.proofs.TakenLaws.{keeps_known}
use Rattle.order_check.proofs.known_laws.every_order_keeps_known.Goals as goal

pub returns : goal.returns
returns c = keeps_known
