-- What cubes come to.
use Rattle.std.proofs.Common.{◌≡◌, ℕ, ◌+◌, ◌-◌, ◌*◌, ◌<◌, ◌≤◌, ◌^◌, ◌⊎◌, Bool, true, false, List, [], ◌∷◌, ◌++◌, length, get_or, Some, sym, ap, subst, inl, inr, zero, suc, refl, ◌∙◌, arith}
use Rattle.std.specs.Prelude.{All}
use Rattle.std.specs.List.{slice_get}
use Rattle.std.proofs.lemmas.Bool.{cases_lt}
use Rattle.std.proofs.lemmas.List.{length-take}
use Rattle.std.proofs.lemmas.Option.{slice_get-get_or}
use Rattle.list_lemmas.proofs.Numbers.{budget_bound}
use Rattle.order_check.specs.Search.{Outcome, has_order, no_order, used_up}
use Rattle.order_check.specs.SearchLaws.{ScansFindOne}
use Rattle.refutation.specs.declared.trees.Tree.{Tree}
use Rattle.refutation.specs.Joining.{cube_sides, IsJoin}
use Rattle.refutation.specs.Laws.{JoinedTreesRefute, JoinedDepth}
use Rattle.refutation.specs.Refutes.{depth_of, IsRefutation}
use Rattle.polygraph.specs.ProblemState.{ProblemState, IsProblem}
use Rattle.polygraph.specs.declared.solving.Answer.{Answer}
use Rattle.polygraph.specs.declared.solving.Answer.TheVariants.{Yes, No, Spent, NoMemory}
use Rattle.polygraph.specs.Outcomes.{split_choices, cube_count, share_of, Finds, RefutesCube, IsPicked}
use Rattle.polygraph.specs.Solving.{IsLawful}
use Rattle.polygraph.specs.SoFar.{AreRefuted, IsTooSmall, IsSoFar, IsPickedOf}
use Rattle.polygraph.proofs.CubeBounds.{split_choices_of, split_length}

finds_one : (law : ScansFindOne) (problem : ProblemState) (depth share cube : ℕ) (one other : Outcome) → Finds problem depth share cube one → Finds problem depth share cube other → one ≡ other
finds_one law problem depth share cube one other (left, a) (rest, b) = (law problem.known.parts (cube_sides (split_choices problem depth) cube []) share left rest one other a b).0

none_next : (problem : ProblemState) (depth share cube : ℕ) → ((lower : ℕ) → lower < cube → ¬ Finds problem depth share lower has_order) → (¬ Finds problem depth share cube has_order) → (lower : ℕ) → lower < cube + 1 → ¬ Finds problem depth share lower has_order
none_next problem depth share cube before here lower below finds = by_place (cases_lt lower cube)
  where
    by_place : (lower < cube) ⊎ (cube ≤ lower) → ⊥
    by_place (inl less) = before lower less finds
    by_place (inr same) = let e : lower ≡ cube = omega arith in here (subst (λ k. Finds problem depth share k has_order) e finds)

at_end : (trees : List Tree) (tree other : Tree) (k : ℕ) → slice_get (trees ++ tree ∷ []) k ≡ Some other → (slice_get trees k ≡ Some other) ⊎ ((k ≡ length trees) × (tree ≡ other))
at_end [] tree other zero is = inr (refl, cc)
at_end [] tree other (suc k) is = absurd cc
at_end (here ∷ trees) tree other zero is = inl is
at_end (here ∷ trees) tree other (suc k) is = more (at_end trees tree other k is)
  where
    more : (slice_get trees k ≡ Some other) ⊎ ((k ≡ length trees) × (tree ≡ other)) → (slice_get trees k ≡ Some other) ⊎ ((suc k ≡ suc (length trees)) × (tree ≡ other))
    more (inl h) = inl h
    more (inr (e, same)) = inr (ap suc e, same)

length_end : (trees : List Tree) (tree : Tree) → length (trees ++ tree ∷ []) ≡ length trees + 1
length_end [] tree = refl
length_end (here ∷ trees) tree = let more = length_end trees tree in omega (arith, more)

pub so_far_no : (law : ScansFindOne) (problem : ProblemState) (depth share cube : ℕ) (trees : List Tree) (spent : Bool) (tree : Tree) → IsSoFar problem depth share cube trees spent → Finds problem depth share cube no_order → RefutesCube problem depth cube tree → IsSoFar problem depth share (cube + 1) (trees ++ tree ∷ []) spent
so_far_no law problem depth share cube trees spent tree before finds refutes = record {
  no_yes = none_next problem depth share cube before.no_yes (λ other. let e = finds_one law problem depth share cube no_order has_order finds other in cc);
  refuted = λ e. refuted_more (before.refuted e);
  used = λ e. let is = before.used e in let low = is.below in record { at = is.at; below = omega arith; finds = is.finds; small = is.small };
}
  where
    refuted_more : AreRefuted problem depth share cube trees → AreRefuted problem depth share (cube + 1) (trees ++ tree ∷ [])
    refuted_more are = record { one_each = length_end trees tree ∙ ap (λ n. n + 1) are.one_each; each = λ k other is. each_more k other (at_end trees tree other k is); finds = λ k below. finds_more k below (cases_lt k cube) }
      where
        each_more : (k : ℕ) (other : Tree) → (slice_get trees k ≡ Some other) ⊎ ((k ≡ length trees) × (tree ≡ other)) → RefutesCube problem depth k other
        each_more k other (inl is) = are.each k other is
        each_more k other (inr (e, same)) = subst (λ n. RefutesCube problem depth n other) (sym are.one_each ∙ sym e) (subst (λ t. RefutesCube problem depth cube t) same refutes)

        finds_more : (k : ℕ) → k < cube + 1 → (k < cube) ⊎ (cube ≤ k) → Finds problem depth share k no_order
        finds_more k below (inl less) = are.finds k less
        finds_more k below (inr past) = let e : cube ≡ k = omega arith in subst (λ n. Finds problem depth share n no_order) e finds

pub so_far_spent : (law : ScansFindOne) (problem : ProblemState) (depth share cube : ℕ) (trees : List Tree) (spent : Bool) → IsSoFar problem depth share cube trees spent → Finds problem depth share cube used_up → IsTooSmall problem depth share → IsSoFar problem depth share (cube + 1) trees true
so_far_spent law problem depth share cube trees spent before finds small = record {
  no_yes = none_next problem depth share cube before.no_yes (λ other. let e = finds_one law problem depth share cube used_up has_order finds other in cc);
  refuted = λ e. absurd cc;
  used = λ e. record { at = cube; below = omega arith; finds = finds; small = small };
}

pub all_spent : (problem : ProblemState) (depth share cube : ℕ) (trees : List Tree) (spent : Bool) → cube ≡ cube_count problem depth → spent ≡ true → IsSoFar problem depth share cube trees spent → IsPickedOf problem depth share Spent
all_spent problem depth share cube trees spent end e far = let is = far.used e in ((is.at, subst (λ n. is.at < n) end is.below, is.finds, λ other within. far.no_yes other (subst (λ n. other < n) (sym end) within)), is.small)

pub all_refuted : (problem : ProblemState) (depth share cube : ℕ) (trees : List Tree) (spent : Bool) → cube ≡ cube_count problem depth → spent ≡ false → IsSoFar problem depth share cube trees spent → AreRefuted problem depth share (cube_count problem depth) trees
all_refuted problem depth share cube trees spent end e far = subst (λ n. AreRefuted problem depth share n trees) end (far.refuted e)

pub picked_of : (problem : ProblemState) (budget depth : ℕ) (answer : Answer) → IsPickedOf problem depth (share_of problem budget depth) answer → IsPicked problem budget depth answer
picked_of problem budget depth (Yes order) h = h
picked_of problem budget depth (No tree) h = h
picked_of problem budget depth Spent h = h.0
picked_of problem budget depth NoMemory h = h

pub lawful_of : (problem : ProblemState) (budget depth : ℕ) (answer : Answer) → depth ≤ 6 → IsProblem problem → IsPickedOf problem depth (share_of problem budget depth) answer → IsLawful problem.known.parts budget depth answer
lawful_of problem budget depth (Yes order) low is h = h.0
lawful_of problem budget depth (No tree) low is h = h.0
lawful_of problem budget depth Spent low is h =
    let few = split_length problem depth is low in
    let small = subst (λ n. share_of problem budget depth + 1 < 2 ^ (n - length (split_choices problem depth) + 1)) is.counted h.1 in
    let bound = budget_bound budget (length (split_choices problem depth)) (length is.all) (share_of problem budget depth) (omega (arith, few)) refl small in
    ((is.all, is.open_choices, subst (λ n. budget + 2 ^ n < 2 ^ (length is.all + 1)) few bound), (problem, is, refl, h.0))
lawful_of problem budget depth NoMemory low is h = h

pub trees_joined : (refute : JoinedTreesRefute) (deep : JoinedDepth) (problem : ProblemState) (depth share cube : ℕ) (trees : List Tree) (tree : Tree) → depth ≤ 6 → IsProblem problem → AreRefuted problem depth share cube trees → IsJoin (split_choices problem depth) trees tree → IsRefutation problem.known.parts tree
trees_joined refute deep problem depth share cube trees tree low problem_is are is = record {
  right = refute problem.known.parts (split_choices problem depth) [] trees tree (split_choices_of problem depth problem_is) (λ k t at. (are.each k t at).right) is;
  shallow = let few = length-take depth problem.first in let d = deep (split_choices problem depth) trees tree (4095 - 2 * length (split_choices problem depth)) all_low is in omega (arith, few, d);
}
  where
    all_low : All (λ below. depth_of below ≤ 4095 - 2 * length (split_choices problem depth)) trees
    all_low k d within = let here = (are.each k (get_or trees k d) (slice_get-get_or trees k d within)).shallow in omega (arith, here)
