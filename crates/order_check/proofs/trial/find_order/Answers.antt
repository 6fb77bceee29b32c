-- answered here, so that a wrong body is refused at once
use Rattle.std.proofs.Common.{rules}
use Rattle.order_check.proofs.trial.find_order.Goals as goal

pub returns-else-branch : goal.returns-else-branch
returns-else-branch c = search rules
