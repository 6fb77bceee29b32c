use Rattle.std.proofs.Common.{◌≡◌, true, nat_lt}
use Rattle.std.specs.List.{AllAdjacentBelow}
use Rattle.txn.proofs.well_formed.writes_rise.Given as goal

abbrev pub invariant-loop-i : goal.invariant-loop-i
invariant-loop-i l = AllAdjacentBelow (λ x y. nat_lt x y ≡ true) l.writes l.i
