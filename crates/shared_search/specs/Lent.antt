-- For private clauses: what the search of a problem's cube may give.
use Rattle.std.specs.Prelude.{◌≡◌, ℕ, ◌+◌, ◌-◌, ◌<◌, ◌^◌, length}
use Rattle.polygraph.specs.ProblemState.{ProblemState}
use Rattle.polygraph.specs.declared.solving.Cube.{Cube}
use Rattle.polygraph.specs.declared.solving.Cube.TheVariants as cubes
use Rattle.polygraph.specs.Outcomes.{split_choices, IsCube}

-- what is told of a cube is what a search of it finds, and is shown; it is spent only where the share doesn't reach
pub record MayGive (problem : ProblemState) (depth share cube : ℕ) (told : Cube) : Type 0 where
  pub is_cube : IsCube problem depth share cube told
  pub small : told ≡ cubes.Spent → share + 1 < 2 ^ (problem.open_count - length (split_choices problem depth) + 1)
