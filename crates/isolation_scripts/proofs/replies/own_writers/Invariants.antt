use Rattle.std.proofs.Common.{◌≡◌, take}
use Rattle.isolation_scripts.specs.Isolated.{own_writers}
use Rattle.isolation_scripts.proofs.replies.own_writers.Given as goal

abbrev pub invariant-loop-entry : goal.invariant-loop-entry
invariant-loop-entry l = l.own.items ≡ own_writers (take l.entry-index l.last)
