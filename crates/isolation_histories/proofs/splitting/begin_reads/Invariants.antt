use Rattle.std.proofs.Common.{◌≡◌, map, take}
use Rattle.isolation_histories.specs.Split.{begin_read_of}
use Rattle.isolation_histories.proofs.splitting.begin_reads.Given as goal

abbrev pub invariant-loop-read : goal.invariant-loop-read
invariant-loop-read l = l.all.items ≡ map begin_read_of (take l.read-index l.reads)
