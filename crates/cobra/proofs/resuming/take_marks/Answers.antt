use Rattle.cobra.proofs.OtherCommands.{first_resuming}
use Rattle.cobra.proofs.resuming.take_marks.Goals as goal

pub returns-in_default : goal.returns-in_default
returns-in_default c =
    first_resuming c.args.sessions c.args.limit c.args.opening c.args.command c.leave_resuming.result.0 c.leave_resuming.result.1 c.in_default.not-Marks c.leave_resuming.ensures
