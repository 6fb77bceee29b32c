use Rattle.std.proofs.Common.{refl, inl, inr, sym, ◌∙◌}
use Rattle.std.proofs.lemmas.Result.{IfOk-weaker}
use Rattle.cobra.specs.Scripts.{IsTakenIn}
use Rattle.report_checking.specs.Owing.{IsStep}
use Rattle.report_checking.specs.Reading.{Leads, IsOwedBy}
use Rattle.round_state.specs.declared.steps.Step.TheVariants as step
use Rattle.log_text.specs.declared.replies.Reply.TheVariants as told
use Rattle.txn.specs.declared.refusals.Refusal.TheVariants.{BadLine}
use Rattle.report_checking.proofs.OwedReplies.{taken_owed, none_taken}
use Rattle.report_checking.proofs.owed.owed_join.Goals as goal

pub returns-then-has_form-clause-owed : goal.returns-then-has_form-clause-owed
returns-then-has_form-clause-owed c =
    IfOk-weaker c.owed_step.result (IsOwedBy (λ answer. Leads c.args.engine.now c.owed_step.new.engine (λ before after. IsStep before (step.Join c.args.logged) answer after))) (IsOwedBy (λ answer. Leads c.args.engine.now c.owed_step.new.engine (λ before after. IsTakenIn c.args.version c.args.logged before answer after (IsStep before (step.Join c.args.logged) answer after))))
    (λ given. taken_owed c.args.engine.now c.owed_step.new.engine c.args.version c.args.logged (step.Join c.args.logged) given (sym c.has_form.ensures ∙ c.if-has_form.true)) c.owed_step.ensures.owed

pub returns-else-has_form-clause-owed : goal.returns-else-has_form-clause-owed
returns-else-has_form-clause-owed c = (
  tt,
  none_taken c.args.engine.now c.args.version c.args.logged (λ before after. IsStep before (step.Join c.args.logged) (told.No BadLine) after) (sym c.has_form.ensures ∙ c.if-has_form.false),
)

pub returns-then-has_form-clause-told : goal.returns-then-has_form-clause-told
returns-then-has_form-clause-told c =
    IfOk-weaker c.owed_step.result _ _ (λ given told. inl (sym c.has_form.ensures ∙ c.if-has_form.true, told)) c.owed_step.ensures.told

pub returns-else-has_form-clause-told : goal.returns-else-has_form-clause-told
returns-else-has_form-clause-told c = inr (sym c.has_form.ensures ∙ c.if-has_form.false, refl)
