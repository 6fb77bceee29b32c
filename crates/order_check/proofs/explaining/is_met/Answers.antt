-- answered here, so that a wrong body is refused at once
use Rattle.std.proofs.Common.{rules}
use Rattle.order_check.proofs.explaining.is_met.Goals as goal

pub returns-else-eq : goal.returns-else-eq
returns-else-eq c = search rules

pub returns-in-Init : goal.returns-in-Init
returns-in-Init c = search rules
