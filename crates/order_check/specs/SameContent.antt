-- Parts with the same transactions and the same base.
use Rattle.std.specs.Prelude.{◌≡◌}
use Rattle.order_check.specs.declared.remainder.Parts.{Parts}

-- the same base and the same remainder; which sessions are closed, and the bounds, may differ
pub record HaveSameContent (one other : Parts) : Type 0 where
  pub base : one.base ≡ other.base
  pub remain : one.remain ≡ other.remain
