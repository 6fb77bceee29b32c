use Rattle.std.proofs.Common.{◌≢◌, List, length, arith}
use Rattle.txn.specs.declared.choices.Arc.{Arc}
use Rattle.txn.specs.declared.choices.Choice.{Choice}
use Rattle.txn.specs.declared.choices.ForceStep.{ForceStep}
use Rattle.txn.specs.declared.choices.Side.{Side}
use Rattle.log_text.specs.Items.{list_of}
use Rattle.log_text.specs.Refutations.{choice_of, side_of, arc_of}
use Rattle.log_text.proofs.Arity.{three_items_none}
use Rattle.log_text.proofs.tree_items.step_in.Goals as goal

pub returns-in_default : goal.returns-in_default
returns-in_default c =
    let other : length c.args.items.now ≢ 3 = grind arith in
    three_items_none {X = ForceStep} (λ (choice : Choice) (side : Side) (cycle : List Arc). record { choice = choice; side = side; cycle = cycle }) (choice_of c.args.names) side_of (list_of (arc_of c.args.names)) c.args.items.now other
