-- Steps that stand above a tree, put there from the last to the first.
use Rattle.std.proofs.Common.{◌≡◌, ◌≢◌, ◌⊎◌, ◌∙◌, ℕ, ◌+◌, ◌*◌, ◌<◌, List, [], ◌∷◌, ◌++◌, length, take, drop, get_or, Some, slice_get, map, refl, sym, ap, subst, inl, inr, zero, suc, arith, append-nil}
use Rattle.std.specs.Prelude.{All, Contains}
use Rattle.std.proofs.Math.ListN.{get_or-map}
use Rattle.std.proofs.Math.Seq.{take-suc}
use Rattle.std.proofs.lemmas.Option.{get_or_from_slice_get, slice_get-get_or, slice_get_within}
use Rattle.std.proofs.lemmas.List.Elements.{Contains-append_left, Contains-append_right, Contains-append_cases}
use Rattle.txn.specs.declared.transactions.TxnId.{TxnId}
use Rattle.txn.specs.declared.choices.Arc.{Arc}
use Rattle.txn.specs.declared.choices.Choice.{Choice}
use Rattle.txn.specs.declared.choices.ForceStep.{ForceStep}
use Rattle.txn.specs.declared.choices.Side.{Side}
use Rattle.txn.specs.declared.choices.Side.TheVariants.{First, Second}
use Rattle.order_check.specs.declared.remainder.Parts.{Parts}
use Rattle.order_check.specs.Cycles.{Sides, IsForced, sides_after, side_taken}
use Rattle.order_check.specs.Known.{IsChoice}
use Rattle.refutation.specs.declared.above.Above.{Above}
use Rattle.refutation.specs.Above.{StandsBelow}
use Rattle.refutation.specs.Laws.{ForcedWithMore, AfterBoth, RefutesWithMore}
use Rattle.refutation.specs.Pruned.{AreAmong}
use Rattle.clock_choices.specs.declared.steps.Forced.{Forced}
use Rattle.clock_choices.specs.Steps.{bare}
use Rattle.clock_choices.specs.BranchState.{BranchState, Level, arc_of, assumed, all_taken, last_steps, taken_before}
use Rattle.polygraph.specs.declared.found.Found.{Found}
use Rattle.polygraph.specs.declared.found.Found.TheVariants.{Yes, No, Spent}
use Rattle.polygraph.specs.Shown.{told_of, IsShown, StandsAbove, IsAbove}

-- a tree stands where more sides are taken, in any order
stands_with : (parts : Parts) (taken more : Sides) (above : Above) → AreAmong taken more → StandsBelow parts taken above → StandsBelow parts more above
stands_with parts taken more above among stands = record { forced = stands.forced; right = stands.right; among = λ side has. among side (stands.among side has) }

-- the first side taken may stand before more of them
side_before : (side : TxnId × TxnId) (more taken : Sides) → AreAmong (more ++ side ∷ taken) (side ∷ more ++ taken)
side_before side more taken other has = by_part (Contains-append_cases more (side ∷ taken) other has)
  where
    later : (n : TxnId × TxnId) → Contains (more ++ taken) n → Contains (side ∷ more ++ taken) n
    later n (k, within, is) = (suc k, omega arith, is)

    by_part : Contains more other ⊎ Contains (side ∷ taken) other → Contains (side ∷ more ++ taken) other
    by_part (inl h) = later other (Contains-append_left more taken other h)
    by_part (inr (zero, within, is)) = (0, omega arith, is)
    by_part (inr (suc k, within, is)) = later other (Contains-append_right more taken other (k, omega arith, is))

-- the sides taken up to a step are its own and those before it
step_after : (law : AfterBoth) (taken : Sides) (steps : List ForceStep) (place : ℕ) (step : ForceStep) → place < length steps → sides_after taken (take (place + 1) steps) ≡ side_taken (get_or steps place step) ∷ sides_after taken (take place steps)
step_after law taken steps place step within =
    let one : suc place ≡ place + 1 = omega arith in
    let e : take (place + 1) steps ≡ take place steps ++ get_or steps place step ∷ [] = subst (λ n. take n steps ≡ take place steps ++ get_or steps place step ∷ []) one (take-suc steps place step within) in
    ap (sides_after taken) e ∙ law taken (take place steps) (get_or steps place step ∷ [])

-- the side of a step before more of those taken before it
before_step : (law : AfterBoth) (parts : Parts) (more taken : Sides) (steps : List ForceStep) (place : ℕ) (step : ForceStep) (above : Above) → slice_get steps place ≡ Some step →
    StandsBelow parts (more ++ sides_after taken (take (place + 1) steps)) above → StandsBelow parts (side_taken step ∷ more ++ sides_after taken (take place steps)) above
before_step law parts more taken steps place step above is stands =
    let before = sides_after taken (take place steps) in
    let e : sides_after taken (take (place + 1) steps) ≡ side_taken step ∷ before = step_after law taken steps place step (slice_get_within steps place step is) ∙ ap (λ s. side_taken s ∷ before) (get_or_from_slice_get steps place step step is) in
    stands_with parts (more ++ side_taken step ∷ before) (side_taken step ∷ more ++ before) above (side_before (side_taken step) more before) (subst (λ sides. StandsBelow parts (more ++ sides) above) e stands)

-- a step whose side isn't used is left out
skipped : (parts : Parts) (before : Sides) (side : TxnId × TxnId) (above : Above) → ¬ Contains above.used side → StandsBelow parts (side ∷ before) above → StandsBelow parts before above
skipped parts before side above unused stands = record { forced = stands.forced; right = stands.right; among = λ other has. by_place other has (stands.among other has) }
  where
    by_place : (other : TxnId × TxnId) → Contains above.used other → Contains (side ∷ before) other → Contains before other
    by_place other has (zero, within, is) = absurd (unused (subst (λ s. Contains above.used s) (sym is) has))
    by_place other has (suc k, within, is) = (k, omega arith, is)

-- a step is forced where more sides are taken
forced_too : (law : ForcedWithMore) (parts : Parts) (more taken : Sides) (step : ForceStep) → IsForced parts taken step → IsForced parts (more ++ taken) step
forced_too law parts more taken step is = (law parts taken (more ++ taken) (step ∷ []) (λ side has. Contains-append_right more taken side has) (is, tt)).0

-- what is read of the steps
pub step_read : (steps : List ForceStep) (forced : List Forced) (place : ℕ) (d : Forced) → map bare forced ≡ steps → place < length steps → slice_get steps place ≡ Some (bare (get_or forced place d))
step_read steps forced place d are within =
    let read : get_or steps place (bare d) ≡ bare (get_or forced place d) = ap (λ all. get_or all place (bare d)) (sym are) ∙ get_or-map bare forced place d in
    slice_get-get_or steps place (bare d) within ∙ ap Some read

-- with or without its cycle a step takes one side
same_side : (choice : Choice) (side : Side) (cycle : List Arc) → (let one : ForceStep = record { choice = choice; side = side; cycle = [] } in let other : ForceStep = record { choice = choice; side = side; cycle = cycle } in side_taken one ≡ side_taken other)
same_side choice First cycle = refl
same_side choice Second cycle = refl

-- a step is put above the tree with the cycle that was found
pub puts_here : (law : ForcedWithMore) (after_both : AfterBoth) (parts : Parts) (more taken : Sides) (steps : List ForceStep) (place : ℕ) (here : Forced) (cycle : List Arc) (old after : Above) → slice_get steps place ≡ Some (bare here) →
    ((step : ForceStep) → slice_get steps place ≡ Some step → IsForced parts (sides_after taken (take place steps)) (record step { cycle = cycle })) →
    ((parts : Parts) (before : Sides) → (let step : ForceStep = record { choice = here.choice; side = here.side; cycle = cycle } in IsForced parts before step → StandsBelow parts (side_taken step ∷ before) old → StandsBelow parts before after)) →
    StandsBelow parts (more ++ sides_after taken (take (place + 1) steps)) old → StandsBelow parts (more ++ sides_after taken (take place steps)) after
puts_here law after_both parts more taken steps place here cycle old after is found put stands =
    let before = sides_after taken (take place steps) in
    let step : ForceStep = record { choice = here.choice; side = here.side; cycle = cycle } in
    put parts (more ++ before) (forced_too law parts more before step (found (bare here) is)) (subst (λ side. StandsBelow parts (side ∷ more ++ before) old) (same_side here.choice here.side cycle) (before_step after_both parts more taken steps place (bare here) old is stands))

-- a step is left out whose side isn't used
pub skips_here : (after_both : AfterBoth) (parts : Parts) (more taken : Sides) (steps : List ForceStep) (place : ℕ) (here : Forced) (above : Above) → slice_get steps place ≡ Some (bare here) → ¬ Contains above.used (side_taken (bare here)) →
    StandsBelow parts (more ++ sides_after taken (take (place + 1) steps)) above → StandsBelow parts (more ++ sides_after taken (take place steps)) above
skips_here after_both parts more taken steps place here above is unused stands =
    skipped parts (more ++ sides_after taken (take place steps)) (side_taken (bare here)) above unused (before_step after_both parts more taken steps place (bare here) above is stands)

-- the sides taken are those after the last steps
pub taken_is : (log : List ForceStep) (levels : List Level) → all_taken log levels ≡ sides_after (taken_before log levels) (last_steps log levels)
taken_is log [] = refl
taken_is log (level ∷ levels) = refl

-- where all steps of a level stand above, those below it come next: its side is among those assumed
pub level_back : (parts : Parts) (log : List ForceStep) (levels : List Level) (all : Sides) (above : Above) → levels ≢ [] → AreAmong (assumed levels) all →
    StandsBelow parts (all ++ taken_before log levels) above → StandsBelow parts (all ++ all_taken log (drop 1 levels)) above
level_back parts log [] all above some among stands = absurd (some refl)
level_back parts log (level ∷ levels) all above some among stands = stands_with parts (all ++ arc_of level.choice level.side ∷ all_taken log levels) (all ++ all_taken log levels) above within stands
  where
    within : AreAmong (all ++ arc_of level.choice level.side ∷ all_taken log levels) (all ++ all_taken log levels)
    within other has = by_part (Contains-append_cases all (arc_of level.choice level.side ∷ all_taken log levels) other has)
      where
        by_part : Contains all other ⊎ Contains (arc_of level.choice level.side ∷ all_taken log levels) other → Contains (all ++ all_taken log levels) other
        by_part (inl h) = Contains-append_left all (all_taken log levels) other h
        by_part (inr (zero, within, is)) = Contains-append_left all (all_taken log levels) other (among other (0, omega arith, is))
        by_part (inr (suc k, within, is)) = Contains-append_right all (all_taken log levels) other (k, omega arith, is)

-- the sides of fewer levels are among those of all
pub fewer_assumed : (levels : List Level) (all : Sides) → AreAmong (assumed levels) all → AreAmong (assumed (drop 1 levels)) all
fewer_assumed [] all among other has = among other has
fewer_assumed (level ∷ levels) all among other (k, within, is) = among other (suc k, omega arith, is)

-- one level is taken back, and the steps of the level below it are put above the tree
pub level_put : (parts : Parts) (branch next : BranchState) (all : Sides) (old after : Above) → branch.parts ≡ parts → branch.levels ≢ [] → next ≡ record branch { levels = drop 1 branch.levels } → AreAmong (assumed branch.levels) all →
    ((more : Sides) → StandsBelow next.parts (more ++ all_taken next.log next.levels) old → StandsBelow next.parts (more ++ taken_before next.log next.levels) after) →
    StandsBelow parts (all ++ taken_before branch.log branch.levels) old → StandsBelow parts (all ++ taken_before next.log next.levels) after
level_put parts branch next all old after here some is among put stands =
    let same : next.parts ≡ parts = ap (λ (b : BranchState). b.parts) is ∙ here in
    let below = level_back parts branch.log branch.levels all old some among stands in
    let moved = subst (λ (b : BranchState). StandsBelow parts (all ++ all_taken b.log b.levels) old) (sym is) below in
    subst (λ p. StandsBelow p (all ++ taken_before next.log next.levels) after) same (put all (subst (λ p. StandsBelow p (all ++ all_taken next.log next.levels) old) (sym same) moved))

-- at first all sides taken are the branch's
pub begins_with : (parts : Parts) (all taken : Sides) (above : Above) → StandsBelow parts taken above → StandsBelow parts (all ++ taken) above
begins_with parts all taken above stands = stands_with parts taken (all ++ taken) above (λ side has. Contains-append_right all taken side has) stands

-- at last none but those assumed
pub ends_with : (parts : Parts) (log : List ForceStep) (levels : List Level) (all : Sides) (above : Above) → length levels ≡ 0 → StandsBelow parts (all ++ taken_before log levels) above → StandsBelow parts all above
ends_with parts log [] all above none stands = subst (λ sides. StandsBelow parts sides above) (append-nil all) stands
ends_with parts log (level ∷ levels) all above none stands = absurd (omega (arith, none))

pub more_choices : (before after : Parts) (choices more : List Choice) (choice : Choice) → choices ≡ choice ∷ more → after ≡ before → All (IsChoice before) choices → All (IsChoice after) more
more_choices before after choices more choice are same all k d within =
    let here : All (IsChoice before) (choice ∷ more) = subst (λ cs. All (IsChoice before) cs) are all in
    subst (λ parts. let P = λ (c : Choice). IsChoice parts c in All P more) (sym same) (λ k d within. here (suc k) d (omega arith)) k d within

pub search_shown : (law : RefutesWithMore) (branch : BranchState) (found whole : Found) → IsShown branch found →
    ((more most : ℕ) → StandsAbove branch.parts (all_taken branch.log branch.levels) more most found → StandsAbove branch.parts (assumed branch.levels) more (most + 1) whole) →
    IsAbove branch.parts (assumed branch.levels) (2 * length branch.levels) 4095 (told_of whole)
search_shown law branch found whole shown above = told whole (above (2 * length branch.levels) 4094 (to_above found shown))
  where
    to_above : (f : Found) → IsShown branch f → StandsAbove branch.parts (all_taken branch.log branch.levels) (2 * length branch.levels) 4094 f
    to_above (Yes order) h = h
    to_above (No pruned) h = h
    to_above Spent h = h

    told : (f : Found) → StandsAbove branch.parts (assumed branch.levels) (2 * length branch.levels) (4094 + 1) f → IsAbove branch.parts (assumed branch.levels) (2 * length branch.levels) 4095 (told_of f)
    told (Yes order) h = h
    told (No pruned) h = let low = h.1 in (law branch.parts pruned.tree pruned.used (assumed branch.levels) h.0.among h.0.right, omega (arith, low))
    told Spent h = h
