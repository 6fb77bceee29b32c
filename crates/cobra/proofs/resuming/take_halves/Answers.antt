use Rattle.cobra.proofs.OtherCommands.{first_halves}
use Rattle.cobra.proofs.resuming.take_halves.Goals as goal

pub returns-in_default : goal.returns-in_default
returns-in_default c =
    first_halves c.args.sessions c.args.limit c.args.version c.args.command c.leave_resuming.result.0 c.leave_resuming.result.1 c.in_default.not-MarksBegun c.leave_resuming.ensures
