use Rattle.cobra.proofs.OtherCommands.{first_handing}
use Rattle.cobra.proofs.resuming.take_over.Goals as goal

pub returns-in_default : goal.returns-in_default
returns-in_default c =
    first_handing c.args.handed c.args.opening c.args.command c.leave_handing.result.0 c.leave_handing.result.1 c.in_default.not-Last c.in_default.not-Offer c.in_default.not-Resumed c.leave_handing.ensures
