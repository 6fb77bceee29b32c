use Rattle.std.proofs.Common.{◌≡◌, refl, sym, ◌∙◌, inl, inr}
use Rattle.std.proofs.lemmas.Result.{IfOk-weaker}
use Rattle.log_text.specs.declared.commands.Command.TheVariants.{Join}
use Rattle.cobra.specs.Scripts.{AnswersBeside}
use Rattle.cobra.specs.StepReplies.{reply_of}
use Rattle.cobra.proofs.scripts.answer_join.Goals as goal

pub returns-then-has_form : goal.returns-then-has_form
returns-then-has_form g c =
    IfOk-weaker c.reply_of.result (λ answer. answer ≡ reply_of c.step-said.result) (λ answer. AnswersBeside c.args.version c.args.audit.now (Join c.args.logged) answer c.step-said.new.self)
    (λ answer is. (inl (sym c.has_form.ensures ∙ c.if-has_form.true, (c.step-said.result, c.step-said.ensures.goes, is)), c.step-said.ensures.search)) c.reply_of.ensures

pub returns-else-has_form : goal.returns-else-has_form
returns-else-has_form g c = (inr (sym c.has_form.ensures ∙ c.if-has_form.false, (refl, refl)), c.lasts.ensures)
