-- How much a search for an order may cost.
use Rattle.std.specs.Prelude.{ℕ, ◌≤◌, ◌^◌}

-- The numbers of a search are within their limits: its budget of nodes, its split depth, and its workers.
pub record IsEffort (budget depth workers : ℕ) : Type 0 where
  pub some_budget : 1 ≤ budget
  pub low_budget : budget ≤ 2 ^ 32
  pub low_depth : depth ≤ 6
  pub some_workers : 1 ≤ workers
  pub few_workers : workers ≤ 16
