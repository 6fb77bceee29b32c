use Rattle.std.proofs.Common.{sym, subst}
use Rattle.round_state.specs.Steps.{StepsTo}
use Rattle.round_state.specs.declared.steps.Step.TheVariants as step
use Rattle.round_state.specs.declared.steps.StepReply.TheVariants as reply
use Rattle.polygraph.specs.declared.solving.Answer.{Answer}
use Rattle.cobra.specs.Searches.{MayAnswerOf}
use Rattle.cobra.proofs.SearchedAnswers.{lawful_of}
use Rattle.cobra.proofs.open_engine.finish_by.Goals as goal

pub returns-in-Ok : goal.returns-in-Ok
returns-in-Ok c =
    let right : StepsTo c.args.engine.now (step.Finish c.args.effort.budget c.args.effort.depth c.args.effort.workers) (reply.Report c.in-Ok.report) c.finish_lawfully.new.self =
    c.in-Ok.ensures.right c.args.effort.budget c.args.effort.depth c.args.effort.workers (lawful_of c.args.effort.search c.args.engine.now.asked c.args.effort.budget c.args.effort.depth c.args.answer c.requires) in
    record {
      goes = record { right = right; legal = c.right_is_legal.ensures (step.Finish c.args.effort.budget c.args.effort.depth c.args.effort.workers) (reply.Report c.in-Ok.report) c.finish_lawfully.new.self right };
      searched = subst (λ (a : Answer). MayAnswerOf c.args.effort.search c.args.engine.now.asked c.args.effort.budget c.args.effort.depth a) (sym c.in-Ok.ensures.told) c.requires;
    }

pub returns-in-Err : goal.returns-in-Err
returns-in-Err c =
    let right : StepsTo c.args.engine.now (step.Finish c.args.effort.budget c.args.effort.depth c.args.effort.workers) (reply.Refused c.in-Err.refusal) c.finish_lawfully.new.self =
    c.in-Err.ensures.right c.args.effort.budget c.args.effort.depth c.args.effort.workers (lawful_of c.args.effort.search c.args.engine.now.asked c.args.effort.budget c.args.effort.depth c.args.answer c.requires) in
    record {
      goes = record { right = right; legal = c.right_is_legal.ensures (step.Finish c.args.effort.budget c.args.effort.depth c.args.effort.workers) (reply.Refused c.in-Err.refusal) c.finish_lawfully.new.self right };
      searched = tt;
    }
