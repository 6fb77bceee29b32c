-- answered here, so that a wrong body is refused at once
use Rattle.std.proofs.Common.{rules}
use Rattle.order_check.proofs.trial.brute.Goals as goal

pub returns-then-has_pending : goal.returns-then-has_pending
returns-then-has_pending c = search rules
