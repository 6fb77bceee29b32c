-- Cubes of a problem, what a search of each finds, and what all of them come to.
use Rattle.std.specs.Prelude.{ℕ, ◌+◌, ◌*◌, ◌<◌, ◌≤◌, ◌^◌, ◌/◌, ⊤, List, [], length, take}
use Rattle.txn.specs.declared.choices.Choice.{Choice}
use Rattle.order_check.specs.Cycles.{Sides}
use Rattle.order_check.specs.Explains.{Explains}
use Rattle.order_check.specs.Search.{Outcome, has_order, no_order, used_up, Scans}
use Rattle.order_check.specs.TakenSides.{KeepsSides}
use Rattle.refutation.specs.Joining.{cube_sides}
use Rattle.refutation.specs.Refutes.{Refutes, depth_of, IsRefutation}
use Rattle.polygraph.specs.ProblemState.{ProblemState}
use Rattle.polygraph.specs.declared.solving.Cube.{Cube}
use Rattle.polygraph.specs.declared.solving.Cube.TheVariants as cubes
use Rattle.polygraph.specs.declared.solving.Answer.{Answer}
use Rattle.polygraph.specs.declared.solving.Answer.TheVariants as answers

-- the choices that a search of this depth splits first: the first so many that are open, six at most, or all where there are fewer
abbrev pub split_choices : ProblemState → ℕ → List Choice
split_choices problem depth = take depth problem.first

-- How many cubes there are: each way to take a side of each choice that is split. A cube's number is below that.
abbrev pub cube_count : ProblemState → ℕ → ℕ
cube_count problem depth = 2 ^ length (split_choices problem depth)

-- the sides that the cube takes of these choices
abbrev pub sides_of_cube : ProblemState → ℕ → ℕ → Sides
sides_of_cube problem depth cube = cube_sides (split_choices problem depth) cube []

-- a search from the cube's sides, within so many nodes, finds this
abbrev pub Finds : ProblemState → ℕ → ℕ → ℕ → Outcome → Type 0
Finds problem depth share cube outcome = (left : ℕ) × Scans problem.known.parts (sides_of_cube problem depth cube) share outcome left

-- A tree refutes the parts where the cube's sides are taken, and leaves room for the splits above it: a checker allows 4,096.
pub record RefutesCube (problem : ProblemState) (depth cube : ℕ) (tree : Rattle.refutation.specs.declared.trees.Tree.Tree) : Type 0 where
  pub right : Refutes problem.known.parts tree (sides_of_cube problem depth cube)
  pub shallow : depth_of tree + 2 * length (split_choices problem depth) ≤ 4095

-- What is told of a cube is what a search of it finds, and is shown: an order explains the parts and keeps the cube's sides. Since an order
-- that explains keeps one side of a choice and not both, it is an order of this cube and of no other.
abbrev pub IsCube : ProblemState → ℕ → ℕ → ℕ → Cube → Type 0
IsCube problem depth share cube (cubes.Yes order) = Finds problem depth share cube has_order × Explains problem.known.parts order × KeepsSides order (sides_of_cube problem depth cube)
IsCube problem depth share cube (cubes.No tree) = Finds problem depth share cube no_order × RefutesCube problem depth cube tree
IsCube problem depth share cube cubes.Spent = Finds problem depth share cube used_up

-- The cubes of a search, each within this share, come to this: to an order where some cube has one; else they are used up where
-- some cube is; else there is none.
abbrev pub ComesTo : ProblemState → ℕ → ℕ → Outcome → Type 0
ComesTo problem depth share has_order = (cube : ℕ) × (cube < cube_count problem depth) × Finds problem depth share cube has_order
ComesTo problem depth share used_up = (cube : ℕ) × (cube < cube_count problem depth) × Finds problem depth share cube used_up × ((other : ℕ) → other < cube_count problem depth → ¬ Finds problem depth share other has_order)
ComesTo problem depth share no_order = (cube : ℕ) → cube < cube_count problem depth → Finds problem depth share cube no_order

-- the cube is the least that has an order
pub record IsLeastYes (problem : ProblemState) (depth share cube : ℕ) : Type 0 where
  pub within : cube < cube_count problem depth
  pub found : Finds problem depth share cube has_order
  pub least : (lower : ℕ) → lower < cube → ¬ Finds problem depth share lower has_order

-- the nodes that each cube may take: the budget is shared out evenly, and what is left over is not used
abbrev pub share_of : ProblemState → ℕ → ℕ → ℕ
share_of problem budget depth = budget / cube_count problem depth

-- The answer is what the cubes come to, each within its share: where one has an order, the order told explains the parts and is that of the
-- least such cube, whose sides it keeps; where there is none in any the tree told refutes them. Want of memory may always be answered.
abbrev pub IsPicked : ProblemState → ℕ → ℕ → Answer → Type 0
IsPicked problem budget depth (answers.Yes order) = Explains problem.known.parts order × ((cube : ℕ) × IsLeastYes problem depth (share_of problem budget depth) cube × KeepsSides order (sides_of_cube problem depth cube))
IsPicked problem budget depth (answers.No tree) = IsRefutation problem.known.parts tree × ComesTo problem depth (share_of problem budget depth) no_order
IsPicked problem budget depth answers.Spent = ComesTo problem depth (share_of problem budget depth) used_up
IsPicked problem budget depth answers.NoMemory = ⊤
