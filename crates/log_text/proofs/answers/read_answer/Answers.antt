use Rattle.log_text.proofs.AnswersRead.{nothing_handed, more_behind, all_shown}
use Rattle.log_text.proofs.TokensRead.{ok_then}
use Rattle.log_text.proofs.answers.read_answer.Goals as goal

pub returns-in_default : goal.returns-in_default
returns-in_default c = nothing_handed c.args.names _ _ (rw c.in_default.is at c.in_ok-handed.ensures)

pub returns-in-Some-next : goal.returns-in-Some-next
returns-in-Some-next c = more_behind c.args.names _ _ _ _ _ (rw c.in-Some.is at c.in_ok-handed.ensures) c.in-Some-next.ensures.value

pub returns-in-None : goal.returns-in-None
returns-in-None c = ok_then c.shown_by.result (λ found is. all_shown c.args.names _ _ c.in-Some.handed found (rw c.in-Some.is at c.in_ok-handed.ensures) c.in-None.ensures.value.0 is) c.shown_by.ensures
