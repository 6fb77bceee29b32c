use Rattle.std.proofs.Common.{◌≡◌, take}
use Rattle.strict_offers.specs.Offers.{with_times}
use Rattle.strict_offers.proofs.spans.with_times.Given as goal

abbrev pub invariant-loop-place : goal.invariant-loop-place
invariant-loop-place l = l.timed.items ≡ with_times (take l.place l.txns) l.spans
