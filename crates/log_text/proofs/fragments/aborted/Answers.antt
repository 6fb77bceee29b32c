use Rattle.std.proofs.Common.{ap, ◌∙◌}
use Rattle.serde_json.specs.View.{items_view}
use Rattle.log_text.specs.Commands.{aborted_in}
use Rattle.log_text.specs.Streams.{few_in}
use Rattle.log_text.proofs.Atoms.{aborted_takes_few}
use Rattle.log_text.proofs.TokensRead.{few_then, few_not, few_given, few_missing, are_read}
use Rattle.log_text.proofs.fragments.aborted.Goals as goal

pub returns-in-Some : goal.returns-in-Some
returns-in-Some c =
    few_then aborted_in 1 0 _ _ (items_view c.in-Some.behind.items) _ aborted_takes_few (are_read (few_in 1) 0 _ _ _ _ (few_given _ _ c.in-Some.is) c.in_ok-behind.ensures)
    (c.aborted_in.ensures ∙ ap (λ vs. aborted_in (items_view vs)) c.as_slice.ensures.value)

pub returns-in-None : goal.returns-in-None
returns-in-None c = few_not aborted_in 1 0 _ _ aborted_takes_few (are_read (few_in 1) 0 _ _ _ _ (few_missing _ c.in-None.is) c.in_ok-behind.ensures)
