-- What contracts see of a branch: sides that are assumed, one after another, and what each of them forces.
use Rattle.std.specs.Prelude.{◌≡◌, List, [], ◌∷◌}
use Rattle.txn.specs.declared.choices.Choice.{Choice}
use Rattle.txn.specs.declared.choices.ForceStep.{ForceStep}
use Rattle.txn.specs.declared.choices.Side.{Side}
use Rattle.txn.specs.declared.choices.Side.TheVariants.{First, Second}
use Rattle.txn.specs.declared.transactions.TxnId.{TxnId}
use Rattle.txn.specs.Choices.{first_side, second_side}
use Rattle.order_check.specs.declared.remainder.Parts.{Parts}
use Rattle.order_check.specs.Cycles.{Sides, IsFullLogFrom, sides_after}
use Rattle.clock_choices.specs.SaturatedState.{sides_logged}

-- a side that is assumed, and the steps that it forces, each without its cycle
pub record Level : Type 0 where
  pub choice : Choice
  pub side : Side
  pub steps : List ForceStep

abbrev pub arc_of : Choice → Side → TxnId × TxnId
arc_of choice First = first_side choice
arc_of choice Second = second_side choice

-- the parts, what was forced before any side was assumed, and the levels, the last first
pub record BranchState : Type 0 where
  pub parts : Parts
  pub log : List ForceStep
  pub levels : List Level

-- the sides assumed, the last first
abbrev pub assumed : List Level → Sides
assumed [] = []
assumed (level ∷ levels) = arc_of level.choice level.side ∷ assumed levels

-- all sides taken, assumed and forced, as a checker counts them: the last first
abbrev pub all_taken : List ForceStep → List Level → Sides
all_taken log [] = sides_after [] log
all_taken log (level ∷ levels) = sides_after (arc_of level.choice level.side ∷ all_taken log levels) level.steps

-- all sides taken where one more is assumed, the last first
abbrev pub taken_with : BranchState → Choice → Side → Sides
taken_with branch choice side = arc_of choice side ∷ all_taken branch.log branch.levels

-- the steps of the last level, or those forced before any side was assumed
abbrev pub last_steps : List ForceStep → List Level → List ForceStep
last_steps log [] = log
last_steps log (level ∷ levels) = level.steps

-- all sides taken before the steps of the last level
abbrev pub taken_before : List ForceStep → List Level → Sides
taken_before log [] = []
taken_before log (level ∷ levels) = arc_of level.choice level.side ∷ all_taken log levels

-- there are cycles that the other sides would close, with which the steps are a full log
abbrev pub AreFullFrom : Parts → Sides → Sides → List ForceStep → Type 0
AreFullFrom parts taken start steps = (whole : List ForceStep) × (sides_logged whole ≡ sides_logged steps) × IsFullLogFrom parts taken start whole
