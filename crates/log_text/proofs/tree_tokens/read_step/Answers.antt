use Rattle.std.proofs.Common.{List, refl, arith}
use Rattle.txn.specs.declared.choices.Arc.{Arc}
use Rattle.txn.specs.declared.choices.Choice.{Choice}
use Rattle.txn.specs.declared.choices.ForceStep.{ForceStep}
use Rattle.txn.specs.declared.choices.Side.{Side}
use Rattle.log_text.specs.Items.{list_of}
use Rattle.log_text.specs.Refutations.{choice_of, side_of, arc_of}
use Rattle.log_text.proofs.FormsRead.{three_none, three_then, two_none, two_then, one_none, one_over, one_open}
use Rattle.log_text.proofs.tree_tokens.read_step.Goals as goal

abbrev step_with : Choice → Side → List Arc → ForceStep
step_with choice side cycle = record { choice = choice; side = side; cycle = cycle }

pub returns-in_default : goal.returns-in_default
returns-in_default c = three_none step_with (choice_of c.args.names) side_of (list_of (arc_of c.args.names)) 1 2 _ _ _ _ (omega arith) c.in_default.is c.in_ok-choice.ensures

pub returns-in_default-read_side : goal.returns-in_default-read_side
returns-in_default-read_side c =
    three_then step_with (choice_of c.args.names) side_of (list_of (arc_of c.args.names)) 1 2 _ _ _ _ _ _ (omega arith) c.in-Some.is c.in_ok-choice.ensures
    (two_none (step_with c.in-Some.choice) side_of (list_of (arc_of c.args.names)) 0 2 _ _ _ _ (omega arith) refl c.in_default-read_side.ensures)

pub returns-in_default-2 : goal.returns-in_default-2
returns-in_default-2 c =
    three_then step_with (choice_of c.args.names) side_of (list_of (arc_of c.args.names)) 1 2 _ _ _ _ _ _ (omega arith) c.in-Some.is c.in_ok-choice.ensures
    (two_then (step_with c.in-Some.choice) side_of (list_of (arc_of c.args.names)) 0 2 _ _ _ _ _ _ (omega arith) refl c.in-Some-read_side.ensures
    (one_none (step_with c.in-Some.choice c.in-Some-read_side.side) (list_of (arc_of c.args.names)) 2 2 _ _ _ _ (omega arith) c.in_default-2.is c.in_ok-cycle.ensures))

pub returns-then-take_end_array : goal.returns-then-take_end_array
returns-then-take_end_array c =
    three_then step_with (choice_of c.args.names) side_of (list_of (arc_of c.args.names)) 1 2 _ _ _ _ _ _ (omega arith) c.in-Some.is c.in_ok-choice.ensures
    (two_then (step_with c.in-Some.choice) side_of (list_of (arc_of c.args.names)) 0 2 _ _ _ _ _ _ (omega arith) refl c.in-Some-read_side.ensures
    (one_over (step_with c.in-Some.choice c.in-Some-read_side.side) (list_of (arc_of c.args.names)) 2 2 _ _ _ _ _ (omega arith) c.in-Some-2.is c.in_ok-cycle.ensures c.if-take_end_array.ensures))

pub returns-else-take_end_array : goal.returns-else-take_end_array
returns-else-take_end_array c =
    three_then step_with (choice_of c.args.names) side_of (list_of (arc_of c.args.names)) 1 2 _ _ _ _ _ _ (omega arith) c.in-Some.is c.in_ok-choice.ensures
    (two_then (step_with c.in-Some.choice) side_of (list_of (arc_of c.args.names)) 0 2 _ _ _ _ _ _ (omega arith) refl c.in-Some-read_side.ensures
    (one_open (step_with c.in-Some.choice c.in-Some-read_side.side) (list_of (arc_of c.args.names)) 2 2 _ _ _ _ _ (omega arith) c.in-Some-2.is c.in_ok-cycle.ensures c.if-take_end_array.ensures.0))
