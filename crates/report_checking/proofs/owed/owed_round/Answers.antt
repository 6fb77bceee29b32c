use Rattle.std.proofs.lemmas.Result.{IfOk-weaker}
use Rattle.report_checking.specs.Owing.{OwesFinish, OwesRound}
use Rattle.report_checking.specs.Reading.{Leads, IsOwedBy}
use Rattle.report_checking.proofs.OwedReplies.{round_owed_by, begin_refused}
use Rattle.report_checking.proofs.RightReports.{right_begun, right_not_begun}
use Rattle.report_checking.proofs.OtherReplies.{begun_alone, refused_alone}
use Rattle.report_checking.specs.Unshown.{ShowsWrongOf}
use Rattle.round_state.specs.EngineState.{EngineState}
use Rattle.round_state.specs.Steps.{StepsTo}
use Rattle.round_state.specs.declared.steps.Step.TheVariants as step
use Rattle.round_state.specs.declared.steps.StepReply.TheVariants as reply
use Rattle.report_checking.proofs.UnshownReplies.{unshows_weaker}
use Rattle.report_checking.proofs.owed.owed_round.Goals as goal

pub returns-in-Done-clause-owed : goal.returns-in-Done-clause-owed
returns-in-Done-clause-owed c =
    IfOk-weaker c.owed_finish.result (IsOwedBy (λ answer. Leads c.step.new.self c.owed_finish.new.engine (λ before after. OwesFinish before answer after))) (IsOwedBy (λ answer. Leads c.args.engine.now c.owed_finish.new.engine (λ before after. OwesRound before answer after)))
    (λ given. round_owed_by c.args.engine.now c.step.new.self c.owed_finish.new.engine given c.in-Done.ensures.legal) c.owed_finish.ensures.owed

pub returns-in_ok-reply_of-in_default-clause-owed : goal.returns-in_ok-reply_of-in_default-clause-owed
returns-in_ok-reply_of-in_default-clause-owed c =
    begin_refused c.args.engine.now c.step.new.self c.step.result c.step.ensures.right c.step.ensures.legal c.in_default.not-Done c.in_ok-reply_of-in_default.field-0 c.in_ok-reply_of-in_default.ensures

pub returns-in-Done-clause-right : goal.returns-in-Done-clause-right
returns-in-Done-clause-right c =
    IfOk-weaker c.owed_finish.result _ _ (λ given. right_begun c.args.names c.args.engine.now c.step.new.self c.args.stored.now given c.in-Done.ensures.right) c.owed_finish.ensures.right

pub returns-in_ok-reply_of-in_default-clause-right : goal.returns-in_ok-reply_of-in_default-clause-right
returns-in_ok-reply_of-in_default-clause-right c =
    right_not_begun c.args.names c.args.engine.now c.step.new.self c.args.stored.now c.step.result c.in_ok-reply_of-in_default.field-0 c.step.ensures.right c.in_default.not-Done c.in_ok-reply_of-in_default.ensures

pub returns-in-Done-clause-refused : goal.returns-in-Done-clause-refused
returns-in-Done-clause-refused c =
    IfOk-weaker c.owed_finish.result _ _ (λ given right. begun_alone c.args.engine.now c.step.new.self given c.in-Done.ensures.right) c.owed_finish.ensures.right

pub returns-in_ok-reply_of-in_default-clause-refused : goal.returns-in_ok-reply_of-in_default-clause-refused
returns-in_ok-reply_of-in_default-clause-refused c =
    refused_alone c.args.engine.now c.step.new.self c.step.result c.in_ok-reply_of-in_default.field-0 c.step.ensures.right c.in_ok-reply_of-in_default.ensures

pub returns-in-Done-clause-unshown : goal.returns-in-Done-clause-unshown
returns-in-Done-clause-unshown c =
    IfOk-weaker c.owed_finish.result _ _ (λ given. unshows_weaker (ShowsWrongOf c.args.names c.args.stored.now c.step.new.self.asked) (λ why. (begun : EngineState) × StepsTo c.args.engine.now step.Begin reply.Done begun × ShowsWrongOf c.args.names c.args.stored.now begun.asked why) (λ why is. (c.step.new.self, c.in-Done.ensures.right, is)) given) c.owed_finish.ensures.unshown
