use Rattle.std.proofs.Common.{IfOk, sym, subst}
use Rattle.log_text.specs.declared.commands.Command.{Command}
use Rattle.log_text.specs.declared.commands.Command.TheVariants.{Round}
use Rattle.log_text.specs.declared.commands.Effort.{Effort}
use Rattle.cobra.specs.Scripts.{AnswersBeside}
use Rattle.cobra.proofs.scripts.answer_open.Goals as goal

pub returns-in-Round : goal.returns-in-Round
returns-in-Round g c =
    subst (λ (command : Command). IfOk c.answer_round.result (λ answer. AnswersBeside c.args.version c.args.audit.now command answer c.answer_round.new.audit)) (sym c.in-Round.is)
    (subst (λ (effort : Effort). IfOk c.answer_round.result (λ answer. AnswersBeside c.args.version c.args.audit.now (Round effort.budget effort.depth effort.workers effort.search) answer c.answer_round.new.audit)) c.effort_of-effort-in-Round.ensures c.answer_round.ensures)
