use Rattle.std.proofs.Common.{◌≡◌, take}
use Rattle.isolation_histories.specs.Logged.{doubled}
use Rattle.isolation_histories.proofs.logged.doubled.Given as goal

abbrev pub invariant-loop-flag : goal.invariant-loop-flag
invariant-loop-flag l = l.twice.items ≡ doubled (take l.flag-index l.flags)
