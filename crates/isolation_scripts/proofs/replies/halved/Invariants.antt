use Rattle.std.proofs.Common.{◌≡◌, ◌/◌, map, take}
use Rattle.isolation_scripts.proofs.replies.halved.Given as goal

abbrev pub invariant-loop-count : goal.invariant-loop-count
invariant-loop-count l = l.halves.items ≡ map (λ n. n / 2) (take l.count-index l.counts)
