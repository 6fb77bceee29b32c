-- answered here, so that a wrong body is refused at once
use Rattle.std.proofs.Common.{rules}
use Rattle.round_state.proofs.state.Engine.reply_to_close.Goals as goal

pub returns-in-Ok : goal.returns-in-Ok
returns-in-Ok c = search rules
