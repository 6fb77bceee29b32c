use Rattle.std.proofs.Common.{Some, None}
use Rattle.txn.specs.declared.choices.ForceStep.{ForceStep}
use Rattle.log_text.specs.declared.tree_items.TreeItem.TheVariants as node
use Rattle.log_text.specs.Refutations.{step_in}
use Rattle.log_text.proofs.TokensRead.{are_read_map}
use Rattle.log_text.proofs.tree_tokens.read_force.Goals as goal

pub returns-in-Some : goal.returns-in-Some
returns-in-Some c = are_read_map (λ (step : ForceStep). node.Force step) (step_in c.args.names) 2 _ _ (Some c.in-Some.step) (rw c.in-Some.is at c.in_ok-step.ensures)

pub returns-in-None : goal.returns-in-None
returns-in-None c = are_read_map (λ (step : ForceStep). node.Force step) (step_in c.args.names) 2 _ _ None (rw c.in-None.is at c.in_ok-step.ensures)
