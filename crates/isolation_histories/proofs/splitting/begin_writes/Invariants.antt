use Rattle.std.proofs.Common.{◌≡◌, map, take}
use Rattle.isolation_histories.specs.Split.{star}
use Rattle.isolation_histories.proofs.splitting.begin_writes.Given as goal

abbrev pub invariant-loop-key : goal.invariant-loop-key
invariant-loop-key l = l.all.items ≡ map star (take l.key-index l.writes)
