use Rattle.std.proofs.Common.{ap, ◌∙◌}
use Rattle.serde_json.specs.View.{items_view}
use Rattle.log_text.specs.Items.{array_of}
use Rattle.log_text.specs.Commands.{writer_in}
use Rattle.log_text.specs.Streams.{few_in}
use Rattle.log_text.proofs.Atoms.{writer_takes_few}
use Rattle.log_text.proofs.TokensRead.{few_array_then, few_array_not, few_given, few_missing, is_read}
use Rattle.log_text.proofs.handed.writer.Goals as goal

pub returns-in-Some : goal.returns-in-Some
returns-in-Some c =
    few_array_then writer_in 3 1 _ _ (items_view c.in-Some.parts.items) _ writer_takes_few (is_read (array_of (few_in 3)) 1 _ _ _ _ (few_given _ _ c.in-Some.is) c.in_ok-parts.ensures)
    (c.writer_in.ensures ∙ ap (λ vs. writer_in (items_view vs)) c.as_slice.ensures.value)

pub returns-in-None : goal.returns-in-None
returns-in-None c = few_array_not writer_in 3 1 _ _ writer_takes_few (is_read (array_of (few_in 3)) 1 _ _ _ _ (few_missing _ c.in-None.is) c.in_ok-parts.ensures)
