-- The cycle of a step is one that the other side closes.
use Rattle.std.proofs.Common.{◌≡◌, ℕ, zero, suc, ◌<◌, List, [], ◌∷◌, length, get_or, map, take, Option, Some, None, refl, sym, ap, subst, ◌∙◌, arith}
use Rattle.std.specs.List.{slice_get}
use Rattle.std.proofs.lemmas.Option.{slice_get-get_or}
use Rattle.txn.specs.declared.transactions.TxnId.{TxnId}
use Rattle.txn.specs.declared.transactions.Source.TheVariants.{By}
use Rattle.txn.specs.declared.choices.Arc.{Arc}
use Rattle.txn.specs.declared.choices.Arc.TheVariants.{Taken}
use Rattle.txn.specs.declared.choices.Choice.{Choice}
use Rattle.txn.specs.declared.choices.ForceStep.{ForceStep}
use Rattle.txn.specs.declared.choices.Side.{Side}
use Rattle.txn.specs.declared.choices.Side.TheVariants.{First, Second}
use Rattle.order_check.specs.declared.remainder.Parts.{Parts}
use Rattle.order_check.specs.Cycles.{IsCycle, IsForced, Sides, side_not_taken, sides_after}
use Rattle.order_check.specs.Known.{IsChoice}
use Rattle.session_clocks.specs.Paths.{IsPathOf}
use Rattle.session_clocks.specs.Reach.{IsThere}
use Rattle.clock_choices.specs.declared.steps.Forced.{Forced}
use Rattle.clock_choices.specs.Cycling.{AreLookedUp}
use Rattle.clock_choices.specs.Logging.{IsLoggedFrom, IsStepFrom}
use Rattle.clock_choices.specs.Over.{IsOver}
use Rattle.clock_choices.specs.Steps.{bare, premise, premise_of, sides_behind}
use Rattle.clock_choices.proofs.FullLogs.{not_taken_is, path_with}
use Rattle.clock_choices.proofs.Remaining.{reader_remains, writer_remains}
use Rattle.clock_choices.proofs.RightArcs.{path_found}
use Rattle.clock_choices.proofs.There.{remains_there}

pub cycle_found : (parts : Parts) (gone received : List ℕ) (arcs : List Arc) (taken : Sides) (step : Forced) (path found cycle : List Arc) → IsOver parts gone received → IsStepFrom parts gone received arcs taken step → IsPathOf gone received (take step.arcs arcs) (premise step).0 path (premise step).1 → AreLookedUp parts path found
    → cycle ≡ Taken (premise step).1 (premise step).0 ∷ found → IsForced parts taken (record { choice = step.choice; side = step.side; cycle = cycle })
cycle_found parts gone received arcs taken step path found cycle over is leads are same =
    let back : TxnId × TxnId = ((premise step).1, (premise step).0) in
    let on = path_found parts taken gone received (take step.arcs arcs) (premise step).0 path found (premise step).1 over is.right leads.leads are in
    let whole : List Arc = Taken (premise step).1 (premise step).0 ∷ found in
    let closes : IsCycle parts (back ∷ taken) whole = (refl, (0, (omega arith), refl), path_with parts back taken (premise step).0 found (premise step).1 on) in (
      is.choice_of,
      subst (λ (xs : List Arc). IsCycle parts (side_not_taken (record { choice = step.choice; side = step.side; cycle = cycle }) ∷ taken) xs) (sym same)
          (subst (λ (side : TxnId × TxnId). IsCycle parts (side ∷ taken) whole) (sym (not_taken_is step.choice step.side cycle)) closes),
    )

-- both ends of what rules the other side out are there
pub premise_there : (parts : Parts) (gone received : List ℕ) (step : Forced) → IsOver parts gone received → IsChoice parts step.choice → IsThere gone received (premise step).0 × IsThere gone received (premise step).1
premise_there parts gone received step over is = by_side step.choice step.side is
  where
    by_side : (choice : Choice) (side : Side) → IsChoice parts choice → IsThere gone received (premise_of choice side).0 × IsThere gone received (premise_of choice side).1
    by_side choice First is = (remains_there parts gone received over choice.other (writer_remains parts choice.other choice.key is.other), remains_there parts gone received over choice.reader (reader_remains parts choice.reader choice.key (By choice.writer) is.reads))
    by_side choice Second is = (remains_there parts gone received over choice.writer (writer_remains parts choice.writer choice.key is.written), remains_there parts gone received over choice.other (writer_remains parts choice.other choice.key is.other))

-- what is logged of the steps
pub length_bare : (steps : List Forced) → length (map bare steps) ≡ length steps
length_bare [] = refl
length_bare (step ∷ steps) = ap suc (length_bare steps)

take_bare : (steps : List Forced) (n : ℕ) → take n (map bare steps) ≡ map bare (take n steps)
take_bare [] zero = refl
take_bare [] (suc n) = refl
take_bare (step ∷ steps) zero = refl
take_bare (step ∷ steps) (suc n) = ap (λ (rest : List ForceStep). bare step ∷ rest) (take_bare steps n)

at_bare : (steps : List Forced) (n : ℕ) (d : Forced) (e : ForceStep) → n < length steps → get_or (map bare steps) n e ≡ bare (get_or steps n d)
at_bare [] n d e within = absurd (omega arith)
at_bare (step ∷ steps) zero d e within = refl
at_bare (step ∷ steps) (suc n) d e within = at_bare steps n d e (omega arith)

abbrev some_or : ForceStep → Option ForceStep → ForceStep
some_or d None = d
some_or d (Some step) = step

pub cycle_logged : (parts : Parts) (start : Sides) (steps : List Forced) (place : ℕ) (step d : Forced) (cycle : List Arc) → place < length steps → step ≡ get_or steps place d → IsForced parts (sides_behind start (take place steps)) (record { choice = step.choice; side = step.side; cycle = cycle })
    → (one : ForceStep) → slice_get (map bare steps) place ≡ Some one → IsForced parts (sides_after start (take place (map bare steps))) (record one { cycle = cycle })
cycle_logged parts start steps place step d cycle within at is one found =
    let len = length_bare steps in
    let there = slice_get-get_or (map bare steps) place one (omega (arith, within, len)) in
    let same : bare step ≡ one = ap bare at ∙ sym (at_bare steps place d one within) ∙ ap (λ (o : Option ForceStep). some_or one o) (sym there ∙ found) in
    subst (λ (taken : Sides). IsForced parts taken (record one { cycle = cycle })) (ap (λ (xs : List ForceStep). sides_after start xs) (sym (take_bare steps place)))
    (subst (λ (s : ForceStep). IsForced parts (sides_behind start (take place steps)) (record s { cycle = cycle })) same is)

-- the step at a place was forced behind those before it
pub logged_at : (parts : Parts) (start : Sides) (gone received : List ℕ) (arcs : List Arc) (steps : List Forced) (log : List ForceStep) (place : ℕ) (step : Forced) → map bare steps ≡ log → place < length log → step ≡ get_or steps place step → IsLoggedFrom parts start gone received arcs steps
    → (place < length steps) × IsStepFrom parts gone received arcs (sides_behind start (take place steps)) step
logged_at parts start gone received arcs steps log place step same inside at logged =
    let len = ap (λ (xs : List ForceStep). length xs) same in
    let bare_len = length_bare steps in
    let within : place < length steps = omega (arith, len, bare_len, inside) in
    (within, subst (λ (one : Forced). IsStepFrom parts gone received arcs (sides_behind start (take place steps)) one) (sym at) (logged.each place step within))
