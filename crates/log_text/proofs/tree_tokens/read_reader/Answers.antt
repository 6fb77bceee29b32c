use Rattle.std.proofs.Common.{ap, ◌∙◌, arith}
use Rattle.serde_json.specs.View.{items_view}
use Rattle.log_text.specs.Refutations.{reader_in}
use Rattle.log_text.proofs.Atoms.{reader_takes_few}
use Rattle.log_text.proofs.TokensRead.{few_then, few_not, deeper_items}
use Rattle.log_text.proofs.tree_tokens.read_reader.Goals as goal

pub returns-in-Some : goal.returns-in-Some
returns-in-Some c =
    deeper_items (reader_in c.args.names) 0 2 _ _ _ (omega arith)
    (few_then (reader_in c.args.names) 4 0 _ _ _ _ (reader_takes_few c.args.names) (rw c.in-Some.is at c.in_ok-values.ensures) (c.reader_in.ensures ∙ ap (λ vs. reader_in c.args.names (items_view vs)) c.as_slice.ensures.value))

pub returns-in-None : goal.returns-in-None
returns-in-None c = deeper_items (reader_in c.args.names) 0 2 _ _ _ (omega arith) (few_not (reader_in c.args.names) 4 0 _ _ (reader_takes_few c.args.names) (rw c.in-None.is at c.in_ok-values.ensures))
