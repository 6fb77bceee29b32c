use Rattle.std.proofs.Common.{ℕ, ◌<◌}
use Rattle.strict_histories.specs.Times.{IsTimely}
use Rattle.strict_histories.proofs.times.first_wrong_time.Given as goal

abbrev pub invariant-loop-place : goal.invariant-loop-place
invariant-loop-place l = (number : ℕ) → number < l.place → IsTimely l.txns number
