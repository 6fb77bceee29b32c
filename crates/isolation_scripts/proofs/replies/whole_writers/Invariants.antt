use Rattle.std.proofs.Common.{◌≡◌, map, take}
use Rattle.isolation_scripts.specs.Isolated.{whole_writer}
use Rattle.isolation_scripts.proofs.replies.whole_writers.Given as goal

abbrev pub invariant-loop-entry : goal.invariant-loop-entry
invariant-loop-entry l = l.whole.items ≡ map whole_writer (take l.entry-index l.last)
