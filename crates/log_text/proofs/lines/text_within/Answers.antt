use Rattle.std.proofs.Common.{ap, sym, ◌∙◌}
use Rattle.log_text.specs.Streams.{opens_array}
use Rattle.log_text.proofs.LinesRead.{no_bracket, no_name, answered_is, command_is}
use Rattle.log_text.proofs.TokensRead.{ok_then}
use Rattle.log_text.proofs.lines.text_within.Goals as goal

pub returns-then-not-takes_array-clause-form : goal.returns-then-not-takes_array-clause-form
returns-then-not-takes_array-clause-form c = no_bracket c.args.names c.args.most c.args.text.now (ap opens_array (sym c.in_ok-reader.ensures.ok) ∙ c.if-not-takes_array.ensures)

pub returns-in-Some-answer-clause-form : goal.returns-in-Some-answer-clause-form
returns-in-Some-answer-clause-form c =
    ok_then c.answered.result (λ found is. answered_is c.args.names c.args.most c.args.text.now _ _ _ found c.in-Some-answer.is-answer (ap opens_array (sym c.in_ok-reader.ensures.ok) ∙ c.if-not-takes_array.ensures) c.in-Some-answer.ensures is) c.answered.ensures.form

pub returns-in-Some-clause-form : goal.returns-in-Some-clause-form
returns-in-Some-clause-form c =
    ok_then c.whole_command.result (λ found is. command_is c.args.names c.args.most c.args.text.now _ _ _ found c.in-Some.not-answer (ap opens_array (sym c.in_ok-reader.ensures.ok) ∙ c.if-not-takes_array.ensures) c.in-Some.ensures is) c.whole_command.ensures.form

pub returns-clause-form : goal.returns-clause-form
returns-clause-form c = no_name c.args.names c.args.most c.args.text.now _ _ (ap opens_array (sym c.in_ok-reader.ensures.ok) ∙ c.if-not-takes_array.ensures) c.in-None.ensures
