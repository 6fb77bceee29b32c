use Rattle.std.proofs.Common.{All, take}
use Rattle.isolation_histories.specs.Splittable.{HasLowNumbers}
use Rattle.isolation_histories.proofs.splittable.have_low_numbers.Given as goal

abbrev pub invariant-loop-txn : goal.invariant-loop-txn
invariant-loop-txn l = All HasLowNumbers (take l.txn-index l.txns)
