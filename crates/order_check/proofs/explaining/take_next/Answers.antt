-- answered here, so that a wrong body is refused at once
use Rattle.std.proofs.Common.{rules}
use Rattle.order_check.proofs.explaining.take_next.Goals as goal

pub returns-clause-next : goal.returns-clause-next
returns-clause-next c = search rules
