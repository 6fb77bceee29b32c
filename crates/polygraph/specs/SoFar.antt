-- For private clauses: what is known once the cubes below a number are searched.
use Rattle.std.specs.Prelude.{◌≡◌, ℕ, ◌+◌, ◌-◌, ◌<◌, ◌^◌, ⊤, Bool, true, false, List, length, slice_get, Some}
use Rattle.order_check.specs.Explains.{Explains}
use Rattle.order_check.specs.Search.{has_order, no_order, used_up}
use Rattle.order_check.specs.TakenSides.{KeepsSides}
use Rattle.refutation.specs.declared.trees.Tree.{Tree}
use Rattle.refutation.specs.Refutes.{IsRefutation}
use Rattle.polygraph.specs.ProblemState.{ProblemState}
use Rattle.polygraph.specs.declared.solving.Answer.{Answer}
use Rattle.polygraph.specs.declared.solving.Answer.TheVariants as answers
use Rattle.polygraph.specs.Outcomes.{split_choices, sides_of_cube, Finds, ComesTo, IsLeastYes, RefutesCube}

-- each cube below this number is refuted, by the tree at its place
pub record AreRefuted (problem : ProblemState) (depth share cube : ℕ) (trees : List Tree) : Type 0 where
  pub one_each : length trees ≡ cube
  pub each : (k : ℕ) (tree : Tree) → slice_get trees k ≡ Some tree → RefutesCube problem depth k tree
  pub finds : (k : ℕ) → k < cube → Finds problem depth share k no_order

-- the share doesn't reach
abbrev pub IsTooSmall : ProblemState → ℕ → ℕ → Type 0
IsTooSmall problem depth share = share + 1 < 2 ^ (problem.open_count - length (split_choices problem depth) + 1)

-- some cube below this number is used up
pub record IsUsedUp (problem : ProblemState) (depth share cube : ℕ) : Type 0 where
  pub at : ℕ
  pub below : at < cube
  pub finds : Finds problem depth share at used_up
  pub small : IsTooSmall problem depth share

-- no cube below this number has an order; unless one was used up each is refuted
pub record IsSoFar (problem : ProblemState) (depth share cube : ℕ) (trees : List Tree) (spent : Bool) : Type 0 where
  pub no_yes : (lower : ℕ) → lower < cube → ¬ Finds problem depth share lower has_order
  pub refuted : spent ≡ false → AreRefuted problem depth share cube trees
  pub used : spent ≡ true → IsUsedUp problem depth share cube

-- the cubes with this share come to the answer
abbrev pub IsPickedOf : ProblemState → ℕ → ℕ → Answer → Type 0
IsPickedOf problem depth share (answers.Yes order) = Explains problem.known.parts order × ((cube : ℕ) × IsLeastYes problem depth share cube × KeepsSides order (sides_of_cube problem depth cube))
IsPickedOf problem depth share (answers.No tree) = IsRefutation problem.known.parts tree × ComesTo problem depth share no_order
IsPickedOf problem depth share answers.Spent = ComesTo problem depth share used_up × IsTooSmall problem depth share
IsPickedOf problem depth share answers.NoMemory = ⊤
