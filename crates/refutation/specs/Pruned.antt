-- What is kept of a tree, with the sides that it uses.
use Rattle.std.specs.Prelude.{List, ◌∷◌, Contains}
use Rattle.txn.specs.declared.transactions.TxnId.{TxnId}
use Rattle.txn.specs.Choices.{first_side, second_side}
use Rattle.txn.specs.declared.choices.Arc.{Arc}
use Rattle.txn.specs.declared.choices.Choice.{Choice}
use Rattle.txn.specs.declared.choices.ForceStep.{ForceStep}
use Rattle.txn.specs.declared.choices.Arc.TheVariants.{Taken}
use Rattle.order_check.specs.declared.remainder.Parts.{Parts}
use Rattle.order_check.specs.Cycles.{Sides, AreForced, sides_after}
use Rattle.order_check.specs.Known.{IsChoice}
use Rattle.refutation.specs.declared.pruned.Pruned.{Pruned}
use Rattle.refutation.specs.Refutes.{Refutes}

-- all of these sides are among those
abbrev pub AreAmong : Sides → Sides → Type 0
AreAmong sides taken = (side : TxnId × TxnId) → Contains sides side → Contains taken side

-- some of the arcs is the side
abbrev pub UseSide : List Arc → TxnId × TxnId → Type 0
UseSide arcs side = Contains arcs (Taken side.0 side.1)

-- The tree refutes the parts where no sides but those that it uses are taken, and these are among those taken.
pub record Stands (parts : Parts) (taken : Sides) (pruned : Pruned) : Type 0 where
  pub right : Refutes parts pruned.tree pruned.used
  pub among : AreAmong pruned.used taken

-- It stands from what the steps are forced from, if the rest stands behind them.
abbrev pub StandsAboveSteps : List ForceStep → Pruned → Pruned → Type 0
StandsAboveSteps steps rest whole = (parts : Parts) (taken : Sides) → AreForced parts taken steps → Stands parts (sides_after taken steps) rest → Stands parts taken whole

-- It stands for a choice, if each of the two stands where its side is taken.
abbrev pub StandsOverSplit : Choice → Pruned → Pruned → Pruned → Type 0
StandsOverSplit choice first second whole =
    (parts : Parts) (taken : Sides) → IsChoice parts choice → Stands parts (first_side choice ∷ taken) first → Stands parts (second_side choice ∷ taken) second → Stands parts taken whole
