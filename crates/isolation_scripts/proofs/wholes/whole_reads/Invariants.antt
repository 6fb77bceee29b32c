use Rattle.std.proofs.Common.{◌≡◌, map, take}
use Rattle.isolation_scripts.specs.Wholes.{whole_read}
use Rattle.isolation_scripts.proofs.wholes.whole_reads.Given as goal

abbrev pub invariant-loop-read : goal.invariant-loop-read
invariant-loop-read l = l.whole.items ≡ map whole_read (take l.read-index l.reads)
