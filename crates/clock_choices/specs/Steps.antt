-- Sides of choices that are forced.
use Rattle.std.specs.Prelude.{List, [], map}
use Rattle.txn.specs.declared.transactions.TxnId.{TxnId}
use Rattle.txn.specs.declared.choices.Arc.{Arc}
use Rattle.txn.specs.declared.choices.Arc.TheVariants.{Taken}
use Rattle.txn.specs.declared.choices.Choice.{Choice}
use Rattle.txn.specs.declared.choices.ForceStep.{ForceStep}
use Rattle.txn.specs.declared.choices.Side.{Side}
use Rattle.txn.specs.declared.choices.Side.TheVariants.{First, Second}
use Rattle.txn.specs.Choices.{first_side, second_side}
use Rattle.order_check.specs.Cycles.{Sides, sides_after}
use Rattle.clock_choices.specs.declared.steps.Forced.{Forced}

-- what rules the other side out: for the second side, that the other writer comes after the writer; for the first, that it comes before the reader
abbrev pub premise_of : Choice → Side → TxnId × TxnId
premise_of choice Second = (choice.writer, choice.other)
premise_of choice First = (choice.other, choice.reader)

-- the arc of the side
abbrev pub conclusion_of : Choice → Side → TxnId × TxnId
conclusion_of choice Second = second_side choice
conclusion_of choice First = first_side choice

abbrev pub premise : Forced → TxnId × TxnId
premise step = premise_of step.choice step.side

abbrev pub conclusion : Forced → TxnId × TxnId
conclusion step = conclusion_of step.choice step.side

-- the arc that it takes
abbrev pub taken_arc : Forced → Arc
taken_arc step = Taken (conclusion step).0 (conclusion step).1

-- what is logged of it: the step without its cycle, which is looked up where it's needed
abbrev pub bare : Forced → ForceStep
bare step = record { choice = step.choice; side = step.side; cycle = [] }

-- the sides taken after these steps, the last first
abbrev pub sides_behind : Sides → List Forced → Sides
sides_behind taken steps = sides_after taken (map bare steps)

-- the sides that these steps take
abbrev pub sides_of : List Forced → Sides
sides_of steps = sides_behind [] steps
