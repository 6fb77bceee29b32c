use Rattle.order_check.proofs.Splitting.{waiting_left}
use Rattle.order_check.proofs.cut_laws.cut_keeps_waiting.Goals as goal

pub returns : goal.returns
returns c = waiting_left
