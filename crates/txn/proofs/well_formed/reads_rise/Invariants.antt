use Rattle.std.proofs.Common.{◌≡◌, true}
use Rattle.std.specs.List.{AllAdjacentBelow}
use Rattle.txn.specs.Transactions.{read_below}
use Rattle.txn.proofs.well_formed.reads_rise.Given as goal

abbrev pub invariant-loop-i : goal.invariant-loop-i
invariant-loop-i l = AllAdjacentBelow (λ x y. read_below x y ≡ true) l.reads l.i
