use Rattle.std.proofs.Common.{◌≡◌, take}
use Rattle.isolation_scripts.specs.Isolated.{committed}
use Rattle.isolation_scripts.proofs.replies.committed.Given as goal

abbrev pub invariant-loop-half : goal.invariant-loop-half
invariant-loop-half l = l.whole.items ≡ committed (take l.half-index l.halves)
