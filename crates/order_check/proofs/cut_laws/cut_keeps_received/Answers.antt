use Rattle.order_check.proofs.Splitting.{received_left}
use Rattle.order_check.proofs.cut_laws.cut_keeps_received.Goals as goal

pub returns : goal.returns
returns c = received_left
