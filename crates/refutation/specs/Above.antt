-- A tree, and steps that stand above it.
use Rattle.std.specs.Prelude.{◌∷◌, reverse}
use Rattle.txn.specs.declared.choices.ForceStep.{ForceStep}
use Rattle.order_check.specs.declared.remainder.Parts.{Parts}
use Rattle.order_check.specs.Cycles.{Sides, IsForced, AreForced, side_taken, sides_after}
use Rattle.refutation.specs.declared.above.Above.{Above}
use Rattle.refutation.specs.Pruned.{AreAmong}
use Rattle.refutation.specs.Refutes.{Refutes}

-- The steps are forced where no sides but those used are taken, and the tree refutes the parts where theirs are taken too; the sides used are
-- among those taken.
pub record StandsBelow (parts : Parts) (taken : Sides) (above : Above) : Type 0 where
  pub forced : AreForced parts above.used (reverse above.steps.items)
  pub right : Refutes parts above.tree (sides_after above.used (reverse above.steps.items))
  pub among : AreAmong above.used taken

-- With the step put before the others, what stood below it stands below what it is forced from.
abbrev pub IsPutAbove : ForceStep → Above → Above → Type 0
IsPutAbove step old new = (parts : Parts) (before : Sides) → IsForced parts before step → StandsBelow parts (side_taken step ∷ before) old → StandsBelow parts before new
