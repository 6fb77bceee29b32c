-- What contracts see of the auditor beside its queues.
use Rattle.std.specs.Prelude.{◌≡◌, ℕ, ◌-◌, ◌<◌, ◌≤◌, ◌^◌, Some}
use Rattle.order_check.specs.declared.remainder.Parts.{Parts}
use Rattle.round_state.specs.EngineState.{EngineState}

-- The budget and the depth that each round's search is given.
pub record Search : Type 0 where
  pub budget : ℕ
  pub depth : ℕ

-- the engine, and what each of its rounds' searches is given
pub record CoreState : Type 0 where
  pub engine : EngineState
  pub search : Search

-- The numbers are within a search's limits, and the number of an open round is below 2^48.
pub record IsCore (engine : EngineState) (budget depth : ℕ) : Type 0 where
  pub some_budget : 1 ≤ budget
  pub low_budget : budget ≤ 2 ^ 32
  pub low_depth : depth ≤ 6
  pub number : (parts : Parts) → engine.asked ≡ Some parts → engine.rounds < 2 ^ 48 - 1
