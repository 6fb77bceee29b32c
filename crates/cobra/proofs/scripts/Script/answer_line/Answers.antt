use Rattle.std.proofs.Common.{◌≡◌}
use Rattle.std.proofs.lemmas.Result.{IfOk-weaker}
use Rattle.log_text.specs.Replies.{line_of}
use Rattle.cobra.specs.Outputs.{RepliesTo}
use Rattle.cobra.proofs.AskedLines.{replies_told}
use Rattle.cobra.proofs.scripts.Script.answer_line.Goals as goal

pub returns : goal.returns
returns g c =
    IfOk-weaker c.write_reply.result (λ text. text.items ≡ line_of c.in_ok-answer.answer) (λ text. RepliesTo c.args.self.now.stage c.args.next.now text.items c.answer_next.new.self.stage)
    (λ text. replies_told c.args.self.now.stage c.answer_next.new.self.stage c.args.next.now c.in_ok-answer.answer text.items c.in_ok-answer.ensures.answers) c.write_reply.ensures.line
