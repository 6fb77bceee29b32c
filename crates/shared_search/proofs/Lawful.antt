-- What is picked of a problem's cubes is lawful, and what they come to.
use Rattle.std.proofs.Common.{◌≡◌, ℕ, zero, suc, ◌+◌, ◌-◌, ◌*◌, ◌/◌, ◌<◌, ◌≤◌, ◌^◌, inl, inr, Bool, true, false, List, [], ◌∷◌, length, take, get_or, Some, None, refl, sym, ap, subst, ◌∙◌, arith, All}
use Rattle.std.specs.List.{slice_get}
use Rattle.std.proofs.lemmas.List.{length-take, take-take}
use Rattle.std.proofs.lemmas.List.Elements.{All-take}
use Rattle.std.proofs.lemmas.Option.{slice_get-get_or}
use Rattle.list_lemmas.proofs.Numbers.{budget_bound}
use Rattle.txn.specs.declared.transactions.TxnId.{TxnId}
use Rattle.txn.specs.declared.choices.Choice.{Choice}
use Rattle.order_check.specs.declared.remainder.Parts.{Parts}
use Rattle.order_check.specs.Known.{IsChoice, IsOpen}
use Rattle.order_check.specs.Search.{Outcome, has_order, no_order, used_up}
use Rattle.order_check.specs.SearchLaws.{ScansFindOne}
use Rattle.refutation.specs.declared.trees.Tree.{Tree}
use Rattle.refutation.specs.Joining.{cube_sides, IsJoin}
use Rattle.refutation.specs.Laws.{JoinedTreesRefute, JoinedDepth}
use Rattle.refutation.specs.Refutes.{depth_of, IsRefutation}
use Rattle.polygraph.specs.ProblemState.{ProblemState, IsProblem}
use Rattle.polygraph.specs.declared.solving.Cube.{Cube}
use Rattle.polygraph.specs.declared.solving.Cube.TheVariants.{Yes, No, Spent}
use Rattle.polygraph.specs.declared.solving.Answer.{Answer}
use Rattle.polygraph.specs.declared.solving.Answer.TheVariants as answers
use Rattle.polygraph.specs.Outcomes.{split_choices, cube_count, share_of, Finds, RefutesCube, IsCube, IsPicked}
use Rattle.polygraph.specs.Solving.{IsLawful}
use Rattle.shared_search.specs.Picks.{first_yes, has_spent, trees, AreOutcomes, Picked}
use Rattle.shared_search.specs.Worked.{is_yes}
use Rattle.shared_search.specs.Lent.{MayGive}
use Rattle.shared_search.proofs.Found.{got_in, first_there}
use Rattle.shared_search.proofs.Gathering.{all_there}

-- outcomes at places

-- the first yes is the outcome of some cube, and of none below it
yes_there : (outs : List Cube) (order : List TxnId) → first_yes outs ≡ Some order → (i : ℕ) × (slice_get outs i ≡ Some (Yes order)) × ((k : ℕ) → k < i → (c : Cube) × (slice_get outs k ≡ Some c) × (is_yes c ≡ false))
yes_there [] order e = absurd cc
yes_there (Yes found ∷ outs) order e = (0, let same : found ≡ order = cc in ap (λ (o : List TxnId). Some (Yes o)) same, λ k below. absurd (omega (arith, below)))
yes_there (No tree ∷ outs) order e = let r = yes_there outs order e in (suc r.0, r.1, before r.0 r.2)
  where
    before : (i : ℕ) → ((k : ℕ) → k < i → (c : Cube) × (slice_get outs k ≡ Some c) × (is_yes c ≡ false)) → (k : ℕ) → k < suc i → (c : Cube) × (slice_get (No tree ∷ outs) k ≡ Some c) × (is_yes c ≡ false)
    before i h zero below = (No tree, refl, refl)
    before i h (suc k) below = h k (omega (arith, below))
yes_there (Spent ∷ outs) order e = let r = yes_there outs order e in (suc r.0, r.1, before r.0 r.2)
  where
    before : (i : ℕ) → ((k : ℕ) → k < i → (c : Cube) × (slice_get outs k ≡ Some c) × (is_yes c ≡ false)) → (k : ℕ) → k < suc i → (c : Cube) × (slice_get (Spent ∷ outs) k ≡ Some c) × (is_yes c ≡ false)
    before i h zero below = (Spent, refl, refl)
    before i h (suc k) below = h k (omega (arith, below))

-- where one is spent, some cube is
spent_there : (outs : List Cube) → has_spent outs ≡ true → (i : ℕ) × (slice_get outs i ≡ Some Spent)
spent_there [] e = absurd cc
spent_there (Yes found ∷ outs) e = let r = spent_there outs e in (suc r.0, r.1)
spent_there (No tree ∷ outs) e = let r = spent_there outs e in (suc r.0, r.1)
spent_there (Spent ∷ outs) e = (0, refl)

out_there : (outs : List Cube) (k : ℕ) → k < length outs → (c : Cube) × (slice_get outs k ≡ Some c)
out_there [] k h = absurd (omega (arith, h))
out_there (c ∷ outs) zero h = (c, refl)
out_there (c ∷ outs) (suc k) h = out_there outs k (omega (arith, h))

-- where there is no yes and none is spent, each has its tree
tree_there : (outs : List Cube) (k : ℕ) (tree : Tree) → first_yes outs ≡ None → has_spent outs ≡ false → slice_get (trees outs) k ≡ Some tree → slice_get outs k ≡ Some (No tree)
tree_there [] k tree none fine at = absurd cc
tree_there (Yes order ∷ outs) k tree none fine at = absurd cc
tree_there (No other ∷ outs) zero tree none fine at = let same : other ≡ tree = cc in ap (λ (t : Tree). Some (No t)) same
tree_there (No other ∷ outs) (suc k) tree none fine at = tree_there outs k tree none fine at
tree_there (Spent ∷ outs) k tree none fine at = absurd cc

no_there : (outs : List Cube) (k : ℕ) → k < length outs → first_yes outs ≡ None → has_spent outs ≡ false → (tree : Tree) × (slice_get outs k ≡ Some (No tree))
no_there [] k below none fine = absurd (omega (arith, below))
no_there (Yes order ∷ outs) k below none fine = absurd cc
no_there (No tree ∷ outs) zero below none fine = (tree, refl)
no_there (No tree ∷ outs) (suc k) below none fine = no_there outs k (omega (arith, below)) none fine
no_there (Spent ∷ outs) k below none fine = absurd cc

-- how far a budget reaches

-- the answer

module _ (law : ScansFindOne) (problem : ProblemState) (budget depth : ℕ) where
  abbrev share : ℕ
  share = share_of problem budget depth

  finds_one : (cube : ℕ) (one other : Outcome) → Finds problem depth share cube one → Finds problem depth share cube other → one ≡ other
  finds_one cube one other (left, a) (rest, b) = (law problem.known.parts (cube_sides (split_choices problem depth) cube []) share left rest one other a b).0

  not_yes : (cube : ℕ) (c : Cube) → is_yes c ≡ false → IsCube problem depth share cube c → ¬ Finds problem depth share cube has_order
  not_yes cube (Yes order) isnt is finds = absurd cc
  not_yes cube (No tree) isnt is finds = let e = finds_one cube no_order has_order is.0 finds in cc
  not_yes cube Spent isnt is finds = let e = finds_one cube used_up has_order is finds in cc

  least_of_outs : (outs : List Cube) (order : List TxnId) → AreOutcomes (MayGive problem depth share) (cube_count problem depth) outs → first_yes outs ≡ Some order → IsPicked problem budget depth (answers.Yes order)
  least_of_outs outs order are first =
      let t = yes_there outs order first in
      let at = (are.allowed t.0 (Yes order) t.1).is_cube in
      let inside = got_in outs t.0 (Yes order) t.1 in
      let few = are.few in (
        at.1,
        (
          t.0,
          record {
            within = omega (arith, inside, few);
            found = at.0;
            least = λ lower below. let o = t.2 lower below in not_yes lower o.0 o.2 (are.allowed lower o.0 o.1).is_cube;
          },
          at.2,
        ),
      )

  -- the choices that are split are the first of all that are open
  split_is : (is : IsProblem problem) → depth ≤ 6 → split_choices problem depth ≡ take depth is.all
  split_is is low = ap (take depth) is.first_six ∙ take-take depth 6 is.all low

  no_of_outs : (refute : JoinedTreesRefute) (deep : JoinedDepth) (outs : List Cube) (tree : Tree) → depth ≤ 6 → IsProblem problem → AreOutcomes (MayGive problem depth share) (cube_count problem depth) outs
      → first_yes outs ≡ None → has_spent outs ≡ false → IsJoin (split_choices problem depth) (trees outs) tree → IsPicked problem budget depth (answers.No tree)
  no_of_outs refute deep outs tree low problem_is are none fine is = (
    record {
      right = refute problem.known.parts (split_choices problem depth) [] (trees outs) tree choices_are (λ k t at. (each k t at).right) is;
      shallow = let few = length-take depth problem.first in let d = deep (split_choices problem depth) (trees outs) tree (4095 - 2 * length (split_choices problem depth)) all_low is in omega (arith, few, d);
    },
    λ cube within. let n = no_there outs cube (let all = all_there (MayGive problem depth share) (cube_count problem depth) outs are none in omega (arith, within, all)) none fine in (are.allowed cube (No n.0) n.1).is_cube.0,
  )
    where
      choices_are : All (IsChoice problem.known.parts) (split_choices problem depth)
      choices_are = subst (λ (cs : List Choice). All (IsChoice problem.known.parts) cs) (sym (split_is problem_is low)) (λ k d within. (All-take (IsOpen problem.known.parts []) depth problem_is.all problem_is.open_choices.each k d within).choice_of)

      each : (k : ℕ) (t : Tree) → slice_get (trees outs) k ≡ Some t → RefutesCube problem depth k t
      each k t at = (are.allowed k (No t) (tree_there outs k t none fine at)).is_cube.1

      all_low : All (λ below. depth_of below ≤ 4095 - 2 * length (split_choices problem depth)) (trees outs)
      all_low k d within = let here = (each k (get_or (trees outs) k d) (slice_get-get_or (trees outs) k d within)).shallow in omega (arith, here)

  spent_of_outs : (outs : List Cube) → AreOutcomes (MayGive problem depth share) (cube_count problem depth) outs → first_yes outs ≡ None → has_spent outs ≡ true
      → IsPicked problem budget depth answers.Spent × (share + 1 < 2 ^ (problem.open_count - length (split_choices problem depth) + 1))
  spent_of_outs outs are none some =
      let t = spent_there outs some in
      let at = are.allowed t.0 Spent t.1 in
      let inside = got_in outs t.0 Spent t.1 in
      let all = all_there (MayGive problem depth share) (cube_count problem depth) outs are none in (
        (t.0, omega (arith, inside, all), at.is_cube, λ other within. let o = out_there outs other (omega (arith, within, all)) in not_yes other o.0 (no_yes other o.0 o.1) (are.allowed other o.0 o.1).is_cube),
        at.small refl,
      )
    where
      no_yes : (k : ℕ) (c : Cube) → slice_get outs k ≡ Some c → is_yes c ≡ false
      no_yes k c at = by_kind (is_yes c) refl
        where
          by_kind : (b : Bool) → is_yes c ≡ b → b ≡ false
          by_kind true is = absurd (first_there outs k c at is none)
          by_kind false is = refl

  picked_of : (refute : JoinedTreesRefute) (deep : JoinedDepth) (answer : Answer) → depth ≤ 6 → IsProblem problem → Picked (MayGive problem depth share) (split_choices problem depth) (cube_count problem depth) answer
      → IsPicked problem budget depth answer
  picked_of refute deep (answers.Yes order) low open_choices (inl none) = absurd cc
  picked_of refute deep (answers.Yes order) low open_choices (inr (outs, are, first)) = least_of_outs outs order are first
  picked_of refute deep (answers.No tree) low open_choices (inl none) = absurd cc
  picked_of refute deep (answers.No tree) low open_choices (inr (outs, are, (none, fine, is))) = no_of_outs refute deep outs tree low open_choices are none fine is
  picked_of refute deep answers.Spent low open_choices (inl none) = absurd cc
  picked_of refute deep answers.Spent low open_choices (inr (outs, are, (none, some))) = (spent_of_outs outs are none some).0
  picked_of refute deep answers.NoMemory low open_choices p = tt

  small_of : Picked (MayGive problem depth share) (split_choices problem depth) (cube_count problem depth) answers.Spent → share + 1 < 2 ^ (problem.open_count - length (split_choices problem depth) + 1)
  small_of (inl none) = absurd cc
  small_of (inr (outs, are, (none, some))) = (spent_of_outs outs are none some).1

  lawful_of : (answer : Answer) → depth ≤ 6 → IsProblem problem → Picked (MayGive problem depth share) (split_choices problem depth) (cube_count problem depth) answer → IsPicked problem budget depth answer → IsLawful problem.known.parts budget depth answer
  lawful_of (answers.Yes order) low is p h = h.0
  lawful_of (answers.No tree) low is p h = h.0
  lawful_of answers.Spent low is p h =
      let few = ap length (split_is is low) ∙ length-take depth is.all in
      let small = subst (λ n. share + 1 < 2 ^ (n - length (split_choices problem depth) + 1)) is.counted (small_of p) in
      let bound = budget_bound budget (length (split_choices problem depth)) (length is.all) share (omega (arith, few)) refl small in
      ((is.all, is.open_choices, subst (λ n. budget + 2 ^ n < 2 ^ (length is.all + 1)) few bound), (problem, is, refl, h))
  lawful_of answers.NoMemory low is p h = tt

-- both, where the count and the share are known by equations
pub both_laws : (law : ScansFindOne) (refute : JoinedTreesRefute) (deep : JoinedDepth) (problem : ProblemState) (budget depth count : ℕ) (answer : Answer) → depth ≤ 6 → IsProblem problem → count ≡ cube_count problem depth
    → Picked (MayGive problem depth (budget / count)) (split_choices problem depth) count answer → IsLawful problem.known.parts budget depth answer × IsPicked problem budget depth answer
both_laws law refute deep problem budget depth count answer low problem_is is p =
    let q = subst (λ (n : ℕ). Picked (MayGive problem depth (budget / n)) (split_choices problem depth) n answer) is p in
    let h = picked_of law problem budget depth refute deep answer low problem_is q in
    (lawful_of law problem budget depth answer low problem_is q h, h)
