-- For private clauses: what a cut leaves of the steps.
use Rattle.std.specs.Prelude.{◌≡◌, ◌≤◌, ℕ, List, [], ◌∷◌, filter, if◌then◌else◌, length, take}
use Rattle.txn.specs.declared.choices.Arc.{Arc}
use Rattle.order_check.specs.declared.remainder.Parts.{Parts}
use Rattle.session_clocks.specs.Drops.{arc_stays}
use Rattle.clock_choices.specs.declared.cutting.Count.{Count}
use Rattle.clock_choices.specs.declared.steps.Forced.{Forced}
use Rattle.clock_choices.specs.SaturatedState.{choice_remains}

-- so many of the arcs before its own stay
abbrev pub left_step : List ℕ → List Arc → Forced → Forced
left_step left arcs step = record step { arcs = length (filter (arc_stays left) (take step.arcs arcs)) }

-- those of whose choices all three remain
abbrev pub steps_left : Parts → List ℕ → List Arc → List Forced → List Forced
steps_left parts left arcs [] = []
steps_left parts left arcs (step ∷ steps) = if choice_remains parts step.choice then left_step left arcs step ∷ steps_left parts left arcs steps else steps_left parts left arcs steps

-- so many arcs at the front were looked at, and so many of them stay
pub record IsCount (left : List ℕ) (arcs : List Arc) (count : Count) : Type 0 where
  pub within : count.seen ≤ length arcs
  pub stay : count.stay ≡ length (filter (arc_stays left) (take count.seen arcs))
