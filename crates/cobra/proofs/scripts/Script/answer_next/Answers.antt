use Rattle.std.proofs.lemmas.Result.{IfOk-weaker}
use Rattle.log_text.specs.Replies.{HasKindOfOrder}
use Rattle.cobra.specs.Outputs.{AnswersNext}
use Rattle.cobra.specs.Scripts.{Answers}
use Rattle.cobra.proofs.AskedLines.{answers_asked, answers_none}
use Rattle.cobra.proofs.ReplyKinds.{answer_kind}
use Rattle.cobra.proofs.scripts.Script.answer_next.Goals as goal

pub returns-in-Some-clause-answers : goal.returns-in-Some-clause-answers
returns-in-Some-clause-answers g c =
    let asks = rw c.names-names.ensures at (rw c.in-Some.is at c.in_ok-command.ensures.some) in
    IfOk-weaker c.answer.result (λ answer. Answers c.args.self.now.stage c.in-Some.command answer c.answer.new.self.stage) (λ answer. AnswersNext c.args.self.now.stage c.args.next.now answer c.answer.new.self.stage)
    (λ answer. answers_asked c.args.self.now.stage c.answer.new.self.stage c.args.next.now c.most_held-most.result c.in-Some.command answer c.most_held-most.ensures.enough asks) c.answer.ensures

pub returns-in-None-clause-answers : goal.returns-in-None-clause-answers
returns-in-None-clause-answers g c = answers_none c.args.self.now.stage c.args.next.now (rw c.names-names.ensures at (rw c.in-None.is at c.in_ok-command.ensures.none))

pub returns-in-Some-clause-kind : goal.returns-in-Some-clause-kind
returns-in-Some-clause-kind g c =
    IfOk-weaker c.answer.result (λ answer. Answers c.args.self.now.stage c.in-Some.command answer c.answer.new.self.stage) HasKindOfOrder
    (λ answer is. answer_kind c.args.self.now.stage c.in-Some.command answer c.answer.new.self.stage is) c.answer.ensures
