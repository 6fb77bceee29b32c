use Rattle.std.proofs.Common.{◌≡◌, map, take}
use Rattle.isolation_scripts.specs.Handed.{taken_half}
use Rattle.isolation_scripts.proofs.handed.taken_writers.Given as goal

abbrev pub invariant-loop-entry : goal.invariant-loop-entry
invariant-loop-entry l = l.taken.items ≡ map taken_half (take l.entry-index l.writers)
