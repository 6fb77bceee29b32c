use Rattle.round_state.specs.declared.steps.Step.TheVariants as step
use Rattle.round_state.specs.declared.steps.StepReply.TheVariants as reply
use Rattle.live_audit.proofs.Answering.{if_some}
use Rattle.live_audit.proofs.Stepping.{not_finished}
use Rattle.live_audit.proofs.steps.finish.Goals as goal

pub returns-in-Ok : goal.returns-in-Ok
returns-in-Ok c search lawful =
    let right = c.in-Ok.ensures.right search.budget search.depth 1 (if_some c.args.engine.now.asked _ lawful) in
    (right, c.right_is_legal.ensures (step.Finish search.budget search.depth 1) (reply.Report c.in-Ok.report) c.finish_lawfully.new.self right)

pub returns-in-Err : goal.returns-in-Err
returns-in-Err c search lawful =
    not_finished search c.args.engine.now c.finish_lawfully.new.self _ c.in-Err.field-0 c.right_is_legal.ensures lawful (c.in-Err.ensures.right search.budget search.depth 1 (if_some c.args.engine.now.asked _ lawful))
