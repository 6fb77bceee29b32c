-- For private clauses: what the steps of a relation say of its arcs.
use Rattle.std.specs.Prelude.{◌≡◌, ◌<◌, ◌≤◌, ℕ, List, [], All, Contains, length, take, slice_index_or}
use Rattle.txn.specs.declared.transactions.TxnId.{TxnId}
use Rattle.txn.specs.declared.choices.Arc.{Arc}
use Rattle.txn.specs.Arcs.{start_of, end_of}
use Rattle.order_check.specs.declared.remainder.Parts.{Parts}
use Rattle.order_check.specs.Cycles.{IsArc, Sides}
use Rattle.order_check.specs.Known.{IsChoice}
use Rattle.session_clocks.specs.Reach.{Reaches}
use Rattle.clock_choices.specs.declared.steps.Forced.{Forced}
use Rattle.clock_choices.specs.Steps.{conclusion, premise, sides_behind, sides_of}

-- a right arc leads from the one to the other. The arc that is kept may be another one: a side that was taken of a read leads from a reader of
-- the base, once the read's writer is gone.
abbrev pub HasRight : Parts → Sides → TxnId → TxnId → Type 0
HasRight parts sides a b = (arc : Arc) × (start_of arc ≡ a) × (end_of arc ≡ b) × IsArc parts sides arc

abbrev pub AreRight : Parts → Sides → List Arc → Type 0
AreRight parts sides arcs = All (λ arc. HasRight parts sides (start_of arc) (end_of arc)) arcs

-- over the arcs that there were then the side was forced, and wasn't there; they led along these sides, which were taken before
pub record IsStepFrom (parts : Parts) (gone received : List ℕ) (arcs : List Arc) (taken : Sides) (step : Forced) : Type 0 where
  pub choice_of : IsChoice parts step.choice
  pub within : step.arcs ≤ length arcs
  pub right : AreRight parts taken (take step.arcs arcs)
  pub ready : Reaches gone received (take step.arcs arcs) (premise step).0 (premise step).1
  pub new : ¬ Reaches gone received (take step.arcs arcs) (conclusion step).0 (conclusion step).1
  pub sides : (a b : TxnId) → Contains taken (a, b) → Reaches gone received (take step.arcs arcs) a b

-- so of each step, where these sides are taken at the start
abbrev pub AreStepsFrom : Parts → Sides → List ℕ → List ℕ → List Arc → List Forced → Type 0
AreStepsFrom parts start gone received arcs steps = (i : ℕ) (d : Forced) → i < length steps → IsStepFrom parts gone received arcs (sides_behind start (take i steps)) (slice_index_or steps i d)

-- the arcs are right where those and the sides of the steps are taken, and each step was forced
pub record IsLoggedFrom (parts : Parts) (start : Sides) (gone received : List ℕ) (arcs : List Arc) (steps : List Forced) : Type 0 where
  pub right : AreRight parts (sides_behind start steps) arcs
  pub each : AreStepsFrom parts start gone received arcs steps

-- the same where no side is taken at the start
abbrev pub IsStepAfter : Parts → List ℕ → List ℕ → List Arc → List Forced → Forced → Type 0
IsStepAfter parts gone received arcs before step = IsStepFrom parts gone received arcs (sides_of before) step

abbrev pub AreStepsAfter : Parts → List ℕ → List ℕ → List Arc → List Forced → Type 0
AreStepsAfter parts gone received arcs steps = AreStepsFrom parts [] gone received arcs steps

abbrev pub IsLogged : Parts → List ℕ → List ℕ → List Arc → List Forced → Type 0
IsLogged parts gone received arcs steps = IsLoggedFrom parts [] gone received arcs steps
