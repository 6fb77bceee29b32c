use Rattle.round_state.specs.declared.steps.Step.TheVariants as step
use Rattle.round_state.specs.declared.steps.StepReply.TheVariants as reply
use Rattle.live_audit.proofs.steps.forget.Goals as goal

pub returns-in-Ok-clause-forgot : goal.returns-in-Ok-clause-forgot
returns-in-Ok-clause-forgot c = c.right_is_legal.ensures step.Truncate (reply.Cut c.in-Ok.cut) c.truncated.new.engine c.in-Ok.ensures.ok

pub returns-in-Err-clause-forgot : goal.returns-in-Err-clause-forgot
returns-in-Err-clause-forgot c = (c.in-Err.field-0, c.right_is_legal.ensures step.Truncate (reply.Refused c.in-Err.field-0) c.truncated.new.engine c.in-Err.ensures.err)
