-- answered here, so that a wrong body is refused at once
use Rattle.std.proofs.Common.{rules}
use Rattle.round_state.proofs.reports.judge.Goals as goal

pub returns-else-not-branch : goal.returns-else-not-branch
returns-else-not-branch c = search rules
