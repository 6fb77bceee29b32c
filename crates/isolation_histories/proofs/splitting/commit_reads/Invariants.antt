use Rattle.std.proofs.Common.{◌≡◌, map, take}
use Rattle.isolation_histories.specs.Split.{commit_read_of}
use Rattle.isolation_histories.proofs.splitting.commit_reads.Given as goal

abbrev pub invariant-loop-key : goal.invariant-loop-key
invariant-loop-key l = l.all.items ≡ map (commit_read_of l.fn.id) (take l.key-index l.writes)
