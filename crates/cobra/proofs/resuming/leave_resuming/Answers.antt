use Rattle.cobra.specs.declared.stages.Stage.TheVariants as stage
use Rattle.cobra.proofs.OtherCommands.{anew_some, anew_none}
use Rattle.cobra.proofs.resuming.leave_resuming.Goals as goal

pub returns-in-Some : goal.returns-in-Some
returns-in-Some c = anew_some (stage.Resuming c.args.sessions c.args.limit c.args.opening) c.args.command c.answer_first-reply.result.0 c.answer_first-reply.result.1 c.in-Some.stage c.answer_first-reply.ensures c.in-Some.is

pub returns-in-None : goal.returns-in-None
returns-in-None c = anew_none (stage.Resuming c.args.sessions c.args.limit c.args.opening) c.args.command c.answer_first-reply.result.0 c.answer_first-reply.result.1 c.answer_first-reply.ensures c.in-None.is
