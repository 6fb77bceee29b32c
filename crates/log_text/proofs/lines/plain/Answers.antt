use Rattle.std.proofs.Common.{ap, ◌∙◌}
use Rattle.serde_json.specs.View.{items_view}
use Rattle.log_text.specs.Lines.{plain_named}
use Rattle.log_text.specs.Streams.{few_in}
use Rattle.log_text.proofs.Atoms.{plain_takes_few}
use Rattle.log_text.proofs.TokensRead.{few_then, few_not, few_given, few_missing, are_read}
use Rattle.log_text.proofs.lines.plain.Goals as goal

pub returns-in-Some-clause-form : goal.returns-in-Some-clause-form
returns-in-Some-clause-form c =
    few_then (plain_named c.args.name.now) 4 0 _ _ (items_view c.in-Some.parts.items) _ (plain_takes_few c.args.name.now) (are_read (few_in 4) 0 _ _ _ _ (few_given _ _ c.in-Some.is) c.in_ok-parts.ensures)
    (c.plain_named.ensures.form ∙ ap (λ vs. plain_named c.args.name.now (items_view vs)) c.as_slice.ensures.value)

pub returns-in-None-clause-form : goal.returns-in-None-clause-form
returns-in-None-clause-form c = few_not (plain_named c.args.name.now) 4 0 _ _ (plain_takes_few c.args.name.now) (are_read (few_in 4) 0 _ _ _ _ (few_missing _ c.in-None.is) c.in_ok-parts.ensures)
