-- What a search of a cube finds, and within how many nodes.
use Rattle.std.proofs.Common.{◌≡◌, ℕ, ◌+◌, ◌-◌, ◌*◌, ◌<◌, ◌≤◌, ◌^◌, ◌⊎◌, Bool, true, false, cond, nat_lt, List, [], ◌∷◌, length, take, drop, min, sym, ap, subst, inl, inr, zero, suc, ◌∙◌, arith}
use Rattle.std.specs.Prelude.{All, Contains}
use Rattle.std.proofs.Math.Pow.{pow_mono}
use Rattle.std.proofs.lemmas.List.{length-take, length-drop, take-take}
use Rattle.std.proofs.lemmas.List.Elements.{All-take}
use Rattle.txn.specs.declared.transactions.TxnId.{TxnId}
use Rattle.txn.specs.declared.choices.Choice.{Choice}
use Rattle.txn.specs.Choices.{first_side, second_side}
use Rattle.order_check.specs.declared.remainder.Parts.{Parts}
use Rattle.order_check.specs.Cycles.{Sides}
use Rattle.order_check.specs.Known.{Known, IsChoice, IsOpen, AreOpenChoices, by_session, by_read, by_base, by_taken, through, forces_after, forces_before}
use Rattle.order_check.specs.Search.{Outcome, used_up, Scans}
use Rattle.order_check.specs.SearchLaws.{ScansAreBounded}
use Rattle.refutation.specs.Joining.{cube_sides}
use Rattle.clock_choices.specs.BranchState.{BranchState, assumed}
use Rattle.polygraph.specs.ProblemState.{ProblemState, IsProblem}
use Rattle.polygraph.specs.declared.solving.Cube.{Cube}
use Rattle.polygraph.specs.declared.solving.Cube.TheVariants.{Yes, No, Spent}
use Rattle.polygraph.specs.Outcomes.{IsCube, sides_of_cube, split_choices}
use Rattle.polygraph.specs.Shown.{outcome_of, OrderKeeps, IsAbove}
use Rattle.polygraph.proofs.Scanned.{assumed_length}

-- what is known from the start stays known where sides are taken
known_with : (parts : Parts) (taken : Sides) (a b : TxnId) → Known parts [] a b → Known parts taken a b
known_with parts taken a b (by_session ra rb same below) = by_session ra rb same below
known_with parts taken a b (by_read key reads writes) = by_read key reads writes
known_with parts taken a b (by_base key reads writes apart) = by_base key reads writes apart
known_with parts taken a b (by_taken (k, within, is)) = absurd (omega arith)
known_with parts taken a b (through {b = m} first second) = through (known_with parts taken a m first) (known_with parts taken m b second)
known_with parts taken a b (forces_after choice is known) = forces_after choice is (known_with parts taken choice.writer choice.other known)
known_with parts taken a b (forces_before choice is known) = forces_before choice is (known_with parts taken choice.other choice.reader known)

open_first : (parts : Parts) (taken : Sides) (choice : Choice) → IsOpen parts taken choice → IsOpen parts [] choice
open_first parts taken choice is = record {
  choice_of = is.choice_of;
  writer_other = λ k. is.writer_other (known_with parts taken choice.writer choice.other k);
  other_reader = λ k. is.other_reader (known_with parts taken choice.other choice.reader k);
  other_writer = λ k. is.other_writer (known_with parts taken choice.other choice.writer k);
  reader_other = λ k. is.reader_other (known_with parts taken choice.reader choice.other k);
}

pub cube_sides_length : (choices : List Choice) (cube : ℕ) (taken : Sides) → length (cube_sides choices cube taken) ≡ length choices + length taken
cube_sides_length [] cube taken = omega arith
cube_sides_length (choice ∷ more) cube taken = by_test (nat_lt cube (2 ^ length more)) (cube_sides_length more cube (first_side choice ∷ taken) ∙ omega arith) (cube_sides_length more (cube - 2 ^ length more) (second_side choice ∷ taken) ∙ omega arith)
  where
    by_test : (t : Bool) → length (cube_sides more cube (first_side choice ∷ taken)) ≡ suc (length more) + length taken → length (cube_sides more (cube - 2 ^ length more) (second_side choice ∷ taken)) ≡ suc (length more) + length taken → length (cond t (cube_sides more cube (first_side choice ∷ taken)) (cube_sides more (cube - 2 ^ length more) (second_side choice ∷ taken))) ≡ suc (length more) + length taken
    by_test true a b = a
    by_test false a b = b

pub grown : (side other : TxnId × TxnId) (taken : Sides) → Contains taken side → Contains (other ∷ taken) side
grown side other taken (k, within, is) = (suc k, omega arith, is)

stays : (choices : List Choice) (cube : ℕ) (taken : Sides) (side : TxnId × TxnId) → Contains taken side → Contains (cube_sides choices cube taken) side
stays [] cube taken side h = h
stays (choice ∷ more) cube taken side h = by_test (nat_lt cube (2 ^ length more)) (stays more cube (first_side choice ∷ taken) side (grown side (first_side choice) taken h)) (stays more (cube - 2 ^ length more) (second_side choice ∷ taken) side (grown side (second_side choice) taken h))
  where
    by_test : (t : Bool) → Contains (cube_sides more cube (first_side choice ∷ taken)) side → Contains (cube_sides more (cube - 2 ^ length more) (second_side choice ∷ taken)) side → Contains (cond t (cube_sides more cube (first_side choice ∷ taken)) (cube_sides more (cube - 2 ^ length more) (second_side choice ∷ taken))) side
    by_test true a b = a
    by_test false a b = b

-- the cube takes a side of each choice
abbrev HasSide : Sides → Choice → Type 0
HasSide sides choice = Contains sides (first_side choice) ⊎ Contains sides (second_side choice)

has_side : (choices : List Choice) (cube : ℕ) (taken : Sides) (choice : Choice) → Contains choices choice → HasSide (cube_sides choices cube taken) choice
has_side [] cube taken choice (k, within, is) = absurd (omega arith)
has_side (here ∷ more) cube taken choice (zero, within, is) = by_test (nat_lt cube (2 ^ length more))
  where
    by_test : (t : Bool) → HasSide (cond t (cube_sides more cube (first_side here ∷ taken)) (cube_sides more (cube - 2 ^ length more) (second_side here ∷ taken))) choice
    by_test true = inl (stays more cube (first_side here ∷ taken) (first_side choice) (0, omega arith, ap first_side is))
    by_test false = inr (stays more (cube - 2 ^ length more) (second_side here ∷ taken) (second_side choice) (0, omega arith, ap second_side is))
has_side (here ∷ more) cube taken choice (suc k, within, is) = by_test (nat_lt cube (2 ^ length more)) (has_side more cube (first_side here ∷ taken) choice (k, omega arith, is)) (has_side more (cube - 2 ^ length more) (second_side here ∷ taken) choice (k, omega arith, is))
  where
    by_test : (t : Bool) → HasSide (cube_sides more cube (first_side here ∷ taken)) choice → HasSide (cube_sides more (cube - 2 ^ length more) (second_side here ∷ taken)) choice → HasSide (cond t (cube_sides more cube (first_side here ∷ taken)) (cube_sides more (cube - 2 ^ length more) (second_side here ∷ taken))) choice
    by_test true a b = a
    by_test false a b = b

-- a choice whose side is taken isn't open
not_open : (parts : Parts) (taken : Sides) (choice : Choice) → HasSide taken choice → ¬ IsOpen parts taken choice
not_open parts taken choice (inl a) is = is.other_writer (by_taken a)
not_open parts taken choice (inr b) is = is.reader_other (by_taken b)

in_either : (choices : List Choice) (n : ℕ) (choice : Choice) → Contains choices choice → Contains (take n choices) choice ⊎ Contains (drop n choices) choice
in_either choices zero choice h = inr h
in_either [] (suc n) choice (k, within, is) = absurd (omega arith)
in_either (here ∷ more) (suc n) choice (zero, within, is) = inl (0, omega arith, is)
in_either (here ∷ more) (suc n) choice (suc k, within, is) = add (in_either more n choice (k, omega arith, is))
  where
    add : Contains (take n more) choice ⊎ Contains (drop n more) choice → Contains (here ∷ take n more) choice ⊎ Contains (drop n more) choice
    add (inl (m, within, is)) = inl (suc m, omega arith, is)
    add (inr h) = inr h

-- what is open at a cube is among the choices that it doesn't split
covered : (parts : Parts) (choices : List Choice) (n cube : ℕ) (choice : Choice) → AreOpenChoices parts [] choices → IsOpen parts (cube_sides (take n choices) cube []) choice → Contains (drop n choices) choice
covered parts choices n cube choice are is = by_part (in_either choices n choice (are.all choice (open_first parts (cube_sides (take n choices) cube []) choice is)))
  where
    by_part : Contains (take n choices) choice ⊎ Contains (drop n choices) choice → Contains (drop n choices) choice
    by_part (inl h) = absurd (not_open parts (cube_sides (take n choices) cube []) choice (has_side (take n choices) cube [] choice h) is)
    by_part (inr h) = h

pub spent_bound : (law : ScansAreBounded) (parts : Parts) (choices : List Choice) (depth cube share left : ℕ) → depth ≤ 6 → share < 2 ^ 64 → AreOpenChoices parts [] choices → Scans parts (cube_sides (take depth choices) cube []) share used_up left → share + 1 < 2 ^ (length choices - length (take depth choices) + 1)
spent_bound law parts choices depth cube share left low fits are scans = by_part (law parts sides share left (drop depth choices) (λ choice is. covered parts choices depth cube choice are is) scans)
  where
    sides : Sides
    sides = cube_sides (take depth choices) cube []

    taken : ℕ
    taken = length (take depth choices)

    rest : length (drop depth choices) ≡ length choices - taken
    rest = let a = length-take depth choices in let b = length-drop depth choices in omega (arith, a, b)

    by_part : (2047 < length sides + length (drop depth choices)) ⊎ (share + 1 < 2 ^ (length (drop depth choices) + 1)) → share + 1 < 2 ^ (length choices - taken + 1)
    by_part (inl deep) =
        let many : length sides ≡ taken + 0 = cube_sides_length (take depth choices) cube [] in
        let few = length-take depth choices in
        let high : 65 ≤ length choices - taken + 1 = omega (arith, rest, few) in
        let more : 2 ^ 65 ≤ 2 ^ (length choices - taken + 1) = pow_mono high in
        omega (arith, more, fits)
    by_part (inr h) = subst (λ n. share + 1 < 2 ^ (n + 1)) rest h

-- the choices of a problem are choices
pub split_are_choices : (parts : Parts) (choices : List Choice) (depth : ℕ) → AreOpenChoices parts [] choices → All (IsChoice parts) (take depth choices)
split_are_choices parts choices depth are k d within = (All-take (IsOpen parts []) depth choices are.each k d within).choice_of

-- the choices that a problem's cubes split are the first of all that are open
pub split_is : (problem : ProblemState) (depth : ℕ) (is : IsProblem problem) → depth ≤ 6 → split_choices problem depth ≡ take depth is.all
split_is problem depth is low = ap (take depth) is.first_six ∙ take-take depth 6 is.all low

pub first_are_choices : (problem : ProblemState) → IsProblem problem → All (IsChoice problem.known.parts) problem.first
first_are_choices problem is = subst (λ cs. All (IsChoice problem.known.parts) cs) (sym is.first_six) (split_are_choices problem.known.parts is.all 6 is.open_choices)

pub split_choices_of : (problem : ProblemState) (depth : ℕ) → IsProblem problem → All (IsChoice problem.known.parts) (split_choices problem depth)
split_choices_of problem depth is = All-take (IsChoice problem.known.parts) depth problem.first (first_are_choices problem is)

pub split_length : (problem : ProblemState) (depth : ℕ) (is : IsProblem problem) → depth ≤ 6 → length (split_choices problem depth) ≡ min depth (length is.all)
split_length problem depth is low = ap length (split_is problem depth is low) ∙ length-take depth is.all

-- what is found from a branch at a cube is told of the cube
pub told_of_cube : (problem : ProblemState) (depth cube share : ℕ) (branch : BranchState) (found : Cube) →
    branch.parts ≡ problem.known.parts → assumed branch.levels ≡ sides_of_cube problem depth cube →
    (left : ℕ) × Scans branch.parts (assumed branch.levels) share (outcome_of found) left →
    OrderKeeps (assumed branch.levels) found →
    IsAbove branch.parts (assumed branch.levels) (2 * length branch.levels) 4095 found →
    IsCube problem depth share cube found
told_of_cube problem depth cube share branch found parts_of sides_of (left, scans) keeps above = by_kind found (left, here scans) (subst (λ s. OrderKeeps s found) sides_of keeps) (moved above)
  where
    sides : Sides
    sides = cube_sides (split_choices problem depth) cube []

    levels : length branch.levels ≡ length (split_choices problem depth)
    levels = let a = assumed_length branch.levels in let b = ap length sides_of in let c = cube_sides_length (split_choices problem depth) cube [] in omega (arith, a, b, c)

    here : {n : ℕ} {outcome : Outcome} {left : ℕ} → Scans branch.parts (assumed branch.levels) n outcome left → Scans problem.known.parts sides n outcome left
    here {n} {outcome} {left} h = subst (λ s. Scans problem.known.parts s n outcome left) sides_of (subst (λ p. Scans p (assumed branch.levels) n outcome left) parts_of h)

    moved : IsAbove branch.parts (assumed branch.levels) (2 * length branch.levels) 4095 found → IsAbove problem.known.parts sides (2 * length (split_choices problem depth)) 4095 found
    moved h = subst (λ n. IsAbove problem.known.parts sides (2 * n) 4095 found) levels (subst (λ s. IsAbove problem.known.parts s (2 * length branch.levels) 4095 found) sides_of (subst (λ p. IsAbove p (assumed branch.levels) (2 * length branch.levels) 4095 found) parts_of h))

    by_kind : (f : Cube) → (left : ℕ) × Scans problem.known.parts sides share (outcome_of f) left → OrderKeeps sides f → IsAbove problem.known.parts sides (2 * length (split_choices problem depth)) 4095 f → IsCube problem depth share cube f
    by_kind (Yes order) finds keeps h = (finds, h, keeps)
    by_kind (No tree) finds keeps h = (finds, record { right = h.0; shallow = h.1 })
    by_kind Spent finds keeps h = finds

pub spent_of_cube : (law : ScansAreBounded) (problem : ProblemState) (depth cube share : ℕ) (found : Cube) → depth ≤ 6 → share < 2 ^ 64 → IsProblem problem → IsCube problem depth share cube found → found ≡ Spent → share + 1 < 2 ^ (problem.open_count - length (split_choices problem depth) + 1)
spent_of_cube law problem depth cube share found low fits is told spent =
    let split = split_is problem depth is low in
    let scans : IsCube problem depth share cube Spent = subst (λ f. IsCube problem depth share cube f) spent told in
    let here = subst (λ (cs : List Choice). Scans problem.known.parts (cube_sides cs cube []) share used_up scans.0) split scans.1 in
    let bound = spent_bound law problem.known.parts is.all depth cube share scans.0 low fits is.open_choices here in
    let left = ap (λ (cs : List Choice). length is.all - length cs + 1) (sym split) ∙ ap (λ n. n - length (split_choices problem depth) + 1) (sym is.counted) in
    subst (λ n. share + 1 < 2 ^ n) left bound
