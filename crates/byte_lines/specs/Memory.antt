-- Devices over memory.
use Rattle.std.specs.Prelude.{ℕ, ◌+◌, ◌-◌}

-- What a contract sees of a pace: at most so many bytes go in a call; which of the calls to come fails, the next one being
-- 1, and none at 0; and how many of the calls so far have failed.
pub record PaceState : Type 0 where
  pub most : ℕ
  pub fails_in : ℕ
  pub faults : ℕ

-- what one call makes of the pace: the call that is to fail is one nearer, and so many more have failed
abbrev pub pace_after : PaceState → ℕ → PaceState
pace_after old failed = record { most = old.most; fails_in = old.fails_in - 1; faults = old.faults + failed }
