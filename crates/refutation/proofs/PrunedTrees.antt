-- What is kept of a tree refutes where the sides that it uses are taken.
use Rattle.std.proofs.Common.{ℕ, ◌+◌, ◌<◌, get_or, reverse, take, ◌≡◌, ◌≢◌, ◌⊎◌, ◌↔◌, ◌∙◌, List, [], ◌∷◌, ◌++◌, length, Some, None, refl, sym, ap, subst, inl, inr, zero, suc, arith}
use Rattle.std.proofs.Math.Seq.{take-suc}
use Rattle.std.specs.Prelude.{Contains}
use Rattle.txn.specs.declared.transactions.TxnId.{TxnId}
use Rattle.txn.specs.declared.choices.Arc.{Arc}
use Rattle.txn.specs.declared.choices.Arc.TheVariants.{Session, Read, Base, Taken}
use Rattle.txn.specs.declared.choices.Choice.{Choice}
use Rattle.txn.specs.declared.choices.ForceStep.{ForceStep}
use Rattle.txn.specs.Arcs.{start_of, end_of}
use Rattle.txn.specs.Choices.{first_side, second_side}
use Rattle.order_check.specs.declared.remainder.Parts.{Parts}
use Rattle.order_check.specs.Cycles.{Sides, IsArc, IsPath, IsCycle, IsForced, side_taken, side_not_taken, AreForced, sides_after}
use Rattle.order_check.specs.Known.{IsChoice}
use Rattle.refutation.specs.declared.above.Above.{Above}
use Rattle.refutation.specs.declared.pruned.Pruned.{Pruned}
use Rattle.refutation.specs.Above.{StandsBelow}
use Rattle.refutation.specs.declared.trees.Tree.{Tree}
use Rattle.refutation.specs.Pruned.{AreAmong, UseSide, Stands}
use Rattle.refutation.specs.Refutes.{Refutes}
use Rattle.refutation.proofs.MoreSides.{forced_more, after_more, after_both, refutes_more}
use Rattle.refutation.proofs.SideSets.{same_or_not}
use Rattle.refutation.proofs.UsedArcs.{Notes}

-- all sides that the arcs use are among these
abbrev AreUsed : List Arc → Sides → Type 0
AreUsed arcs sides = (side : TxnId × TxnId) → UseSide arcs side → Contains sides side

later : (arc : Arc) (arcs : List Arc) (side : TxnId × TxnId) → UseSide arcs side → UseSide (arc ∷ arcs) side
later arc arcs side (k, within, is) = (suc k, omega arith, is)

grown : (side other : TxnId × TxnId) (sides : Sides) → Contains sides other → Contains (side ∷ sides) other
grown side other sides (k, within, is) = (suc k, omega arith, is)

-- a side that is not the first is among the others
pub not_first : (first : TxnId × TxnId) (sides : Sides) (side : TxnId × TxnId) → side ≢ first → Contains (first ∷ sides) side → Contains sides side
not_first first sides side apart (zero, within, is) = absurd (apart (sym is))
not_first first sides side apart (suc k, within, is) = (k, omega arith, is)

arc_used : (parts : Parts) (taken more : Sides) (arc : Arc) → ((side : TxnId × TxnId) → arc ≡ Taken side.0 side.1 → Contains more side) → IsArc parts taken arc → IsArc parts more arc
arc_used parts taken more (Session from to) uses right = right
arc_used parts taken more (Read key from to) uses right = right
arc_used parts taken more (Base key from to) uses right = right
arc_used parts taken more (Taken from to) uses right = uses (from, to) refl

path_used : (parts : Parts) (taken more : Sides) (start : TxnId) (arcs : List Arc) (goal : TxnId) → AreUsed arcs more → IsPath parts taken start arcs goal → IsPath parts more start arcs goal
path_used parts taken more start [] goal uses h = h
path_used parts taken more start (arc ∷ arcs) goal uses (begins, right, rest) = (
  begins,
  arc_used parts taken more arc (λ side is. uses side (0, omega arith, is)) right,
  path_used parts taken more (end_of arc) arcs goal (λ side h. uses side (later arc arcs side h)) rest,
)

-- a cycle is right where the sides that it uses are taken
cycle_used : (parts : Parts) (taken more : Sides) (arcs : List Arc) → AreUsed arcs more → IsCycle parts taken arcs → IsCycle parts more arcs
cycle_used parts taken more [] uses h = h
cycle_used parts taken more (arc ∷ arcs) uses h = path_used parts taken more (start_of arc) (arc ∷ arcs) (start_of arc) uses h

arc_takes : (parts : Parts) (taken : Sides) (arc : Arc) (side : TxnId × TxnId) → arc ≡ Taken side.0 side.1 → IsArc parts taken arc → Contains taken side
arc_takes parts taken arc side is right = subst (λ a. IsArc parts taken a) is right

path_takes : (parts : Parts) (taken : Sides) (start : TxnId) (arcs : List Arc) (goal : TxnId) → IsPath parts taken start arcs goal → AreUsed arcs taken
path_takes parts taken start [] goal h side (k, within, is) = absurd (omega arith)
path_takes parts taken start (arc ∷ arcs) goal (begins, right, rest) side (zero, within, is) = arc_takes parts taken arc side is right
path_takes parts taken start (arc ∷ arcs) goal (begins, right, rest) side (suc k, within, is) = path_takes parts taken (end_of arc) arcs goal rest side (k, omega arith, is)

-- the sides that a right cycle uses are taken
cycle_takes : (parts : Parts) (taken : Sides) (arcs : List Arc) → IsCycle parts taken arcs → AreUsed arcs taken
cycle_takes parts taken [] h = absurd h
cycle_takes parts taken (arc ∷ arcs) h = path_takes parts taken (start_of arc) (arc ∷ arcs) (start_of arc) h

-- what stands below steps stands without one more whose side isn't used
pub skips_step : (parts : Parts) (before : Sides) (step : ForceStep) (above : Above) → ¬ Contains above.used (side_taken step) →
    StandsBelow parts (side_taken step ∷ before) above → StandsBelow parts before above
skips_step parts before step above unused stands = record {
  forced = stands.forced;
  right = stands.right;
  among = λ side has. not_first (side_taken step) before side (λ same. unused (subst (λ s. Contains above.used s) same has)) (stands.among side has);
}

-- a step stands before them, and the sides of its cycle are used above it
pub puts_step : (parts : Parts) (before left : Sides) (step : ForceStep) (old after : Above) →
    after.tree ≡ old.tree → reverse after.steps.items ≡ step ∷ reverse old.steps.items →
    ((other : TxnId × TxnId) → Contains left other ↔ (Contains old.used other × (other ≢ side_taken step))) →
    Notes left after.used step.cycle (Some (side_not_taken step)) →
    IsForced parts before step → StandsBelow parts (side_taken step ∷ before) old → StandsBelow parts before after
puts_step parts before left step old after same_tree steps others notes is stands = record {
  forced = subst (λ steps. AreForced parts new steps) (sym steps) ((is.0, cycle_used parts (against ∷ before) (against ∷ new) step.cycle in_cycle is.1), forced_more parts old.used (side ∷ new) kept stay stands.forced);
  right = subst (λ steps. Refutes parts after.tree (sides_after new steps)) (sym steps) (subst (λ tree. Refutes parts tree (sides_after (side ∷ new) kept)) (sym same_tree) (refutes_more parts old.tree (sides_after old.used kept) (sides_after (side ∷ new) kept) (after_more old.used (side ∷ new) kept stay) stands.right));
  among = within;
}
  where
    new : Sides
    new = after.used

    kept : List ForceStep
    kept = reverse old.steps.items

    side : TxnId × TxnId
    side = side_taken step

    against : TxnId × TxnId
    against = side_not_taken step

    within : AreAmong new before
    within other has = by_case ((notes other).0 has)
      where
        by_case : Contains left other ⊎ (UseSide step.cycle other × (Some against ≢ Some other)) → Contains before other
        by_case (inl h) = let k = (others other).0 h in not_first side before other k.1 (stands.among other k.0)
        by_case (inr (uses, apart)) = not_first against before other (λ same. apart (ap Some (sym same))) (cycle_takes parts (against ∷ before) step.cycle is.1 other uses)

    stay : AreAmong old.used (side ∷ new)
    stay other has = by_case (same_or_not other side)
      where
        by_case : (other ≡ side) ⊎ (other ≢ side) → Contains (side ∷ new) other
        by_case (inl same) = (0, omega arith, sym same)
        by_case (inr apart) = grown side other new ((notes other).1 (inl ((others other).1 (has, apart))))

    in_cycle : AreUsed step.cycle (against ∷ new)
    in_cycle other uses = by_case (same_or_not other against)
      where
        by_case : (other ≡ against) ⊎ (other ≢ against) → Contains (against ∷ new) other
        by_case (inl same) = (0, omega arith, sym same)
        by_case (inr apart) = grown against other new ((notes other).1 (inr (uses, λ same. apart (sym (some_is same)))))
          where
            some_is : Some against ≡ Some other → against ≡ other
            some_is same = cc

-- the last of some forced steps is forced where the sides of those before it are taken
last_forced : (parts : Parts) (taken : Sides) (before : List ForceStep) (step : ForceStep) → AreForced parts taken (before ++ step ∷ []) → AreForced parts taken before × IsForced parts (sides_after taken before) step
last_forced parts taken [] step h = (tt, h.0)
last_forced parts taken (x ∷ before) step h = let rest = last_forced parts (side_taken x ∷ taken) before step h.1 in ((h.0, rest.0), rest.1)

-- the first of some forced steps are forced
first_forced : (parts : Parts) (taken : Sides) (steps : List ForceStep) (n : ℕ) → AreForced parts taken steps → AreForced parts taken (take n steps)
first_forced parts taken steps zero h = tt
first_forced parts taken [] (suc n) h = tt
first_forced parts taken (step ∷ steps) (suc n) h = (h.0, first_forced parts (side_taken step ∷ taken) steps n h.1)

-- one more step is looked at, the last of those left
pub turn_put : (parts : Parts) (taken : Sides) (steps : List ForceStep) (place top : ℕ) (step : ForceStep) (old after : Above) → top ≡ place + 1 → place < length steps → step ≡ get_or steps place step →
    ((parts : Parts) (before : Sides) → IsForced parts before step → StandsBelow parts (side_taken step ∷ before) old → StandsBelow parts before after) →
    AreForced parts taken steps → StandsBelow parts (sides_after taken (take top steps)) old → StandsBelow parts (sides_after taken (take place steps)) after
turn_put parts taken steps place top step old after next within is turn forced stands =
    let before : List ForceStep = take place steps in
    let one : suc place ≡ top = omega (arith, next) in
    let whole : take top steps ≡ before ++ get_or steps place step ∷ [] = subst (λ n. take n steps ≡ before ++ get_or steps place step ∷ []) one (take-suc steps place step within) in
    let e : take top steps ≡ before ++ step ∷ [] = whole ∙ ap (λ s. before ++ s ∷ []) (sym is) in
    let last = last_forced parts taken before step (subst (λ xs. AreForced parts taken xs) e (first_forced parts taken steps top forced)) in
    let sides : sides_after taken (take top steps) ≡ side_taken step ∷ sides_after taken before = ap (sides_after taken) e ∙ after_both taken before (step ∷ []) in
    turn parts (sides_after taken before) last.1 (subst (λ sides. StandsBelow parts sides old) sides stands)

-- the sides that a leaf uses
pub cycle_uses : (parts : Parts) (taken used : Sides) (arcs : List Arc) → Notes [] used arcs None → IsCycle parts taken arcs → IsCycle parts used arcs × AreAmong used taken
cycle_uses parts taken used arcs notes h = (cycle_used parts taken used arcs in_cycle h, among)
  where
    in_cycle : AreUsed arcs used
    in_cycle side uses = (notes side).1 (inr (uses, λ same. absurd cc))

    among : AreAmong used taken
    among side has = by_case ((notes side).0 has)
      where
        by_case : Contains [] side ⊎ (UseSide arcs side × (None ≢ Some side)) → Contains taken side
        by_case (inl (k, within, is)) = absurd (omega arith)
        by_case (inr (uses, _)) = cycle_takes parts taken arcs h side uses

-- a tree that doesn't use a side stands without it
pub stands_alone : (parts : Parts) (taken : Sides) (side : TxnId × TxnId) (pruned : Pruned) → ¬ Contains pruned.used side → Stands parts (side ∷ taken) pruned → Stands parts taken pruned
stands_alone parts taken side pruned unused stands = record {
  right = stands.right;
  among = λ other has. not_first side taken other (λ same. unused (subst (λ s. Contains pruned.used s) same has)) (stands.among other has);
}

-- a half of a split
half : (parts : Parts) (used left both : Sides) (side : TxnId × TxnId) (tree : Tree) →
    ((other : TxnId × TxnId) → Contains left other ↔ (Contains used other × (other ≢ side))) → AreAmong left both → Refutes parts tree used → Refutes parts tree (side ∷ both)
half parts used left both side tree others among right = refutes_more parts tree used (side ∷ both) stay right
  where
    stay : AreAmong used (side ∷ both)
    stay other has = by_case (same_or_not other side)
      where
        by_case : (other ≡ side) ⊎ (other ≢ side) → Contains (side ∷ both) other
        by_case (inl same) = (0, omega arith, sym same)
        by_case (inr apart) = grown side other both (among other ((others other).1 (has, apart)))

-- both halves, each with its side
pub stands_split : (parts : Parts) (taken one other both : Sides) (choice : Choice) (first second : Pruned) →
    ((side : TxnId × TxnId) → Contains one side ↔ (Contains first.used side × (side ≢ first_side choice))) →
    ((side : TxnId × TxnId) → Contains other side ↔ (Contains second.used side × (side ≢ second_side choice))) →
    ((side : TxnId × TxnId) → Contains both side ↔ (Contains one side ⊎ Contains other side)) →
    IsChoice parts choice → Stands parts (first_side choice ∷ taken) first → Stands parts (second_side choice ∷ taken) second →
    IsChoice parts choice × Refutes parts first.tree (first_side choice ∷ both) × Refutes parts second.tree (second_side choice ∷ both) × AreAmong both taken
stands_split parts taken one other both choice first second ones others united is left right = (
  is,
  half parts first.used one both (first_side choice) first.tree ones (λ side has. (united side).1 (inl has)) left.right,
  half parts second.used other both (second_side choice) second.tree others (λ side has. (united side).1 (inr has)) right.right,
  among,
)
  where
    among : AreAmong both taken
    among side has = by_case ((united side).0 has)
      where
        by_case : Contains one side ⊎ Contains other side → Contains taken side
        by_case (inl h) = let k = (ones side).0 h in not_first (first_side choice) taken side k.1 (left.among side k.0)
        by_case (inr h) = let k = (others side).0 h in not_first (second_side choice) taken side k.1 (right.among side k.0)
