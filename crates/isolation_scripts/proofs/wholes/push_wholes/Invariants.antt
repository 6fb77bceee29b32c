use Rattle.std.proofs.Common.{◌≡◌, ◌*◌, ◌++◌, take}
use Rattle.isolation_scripts.specs.Wholes.{whole_txns}
use Rattle.isolation_scripts.proofs.wholes.push_wholes.Given as goal

abbrev pub invariant-loop-place : goal.invariant-loop-place
invariant-loop-place l = l.whole.items ≡ l.initial.whole.items ++ whole_txns (take (2 * l.place) l.halves)
