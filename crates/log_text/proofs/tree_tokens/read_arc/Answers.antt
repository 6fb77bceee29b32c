use Rattle.std.proofs.Common.{ap}
use Rattle.serde_json.specs.View.{items_view}
use Rattle.log_text.proofs.TokensRead.{few_array_not}
use Rattle.log_text.specs.Refutations.{arc_in}
use Rattle.log_text.proofs.Atoms.{arc_takes_few}
use Rattle.log_text.proofs.FormsRead.{few_some}
use Rattle.log_text.proofs.tree_tokens.read_arc.Goals as goal

pub returns-in-Some : goal.returns-in-Some
returns-in-Some c = few_some (arc_in c.args.names) 8 1 _ _ _ _ _ (arc_takes_few c.args.names) (rw c.in-Some.is at c.in_ok-values.ensures) (ap items_view c.as_slice.ensures.value) c.arc_in.ensures

pub returns-in-None : goal.returns-in-None
returns-in-None c = few_array_not (arc_in c.args.names) 8 1 _ _ (arc_takes_few c.args.names) (rw c.in-None.is at c.in_ok-values.ensures)
