use Rattle.std.proofs.Common.{◌≡◌, take}
use Rattle.order_check.specs.Based.{received_counts}
use Rattle.order_check.proofs.remainder.Parts.received_counts.Given as goal

abbrev pub invariant-loop-session : goal.invariant-loop-session
invariant-loop-session l = l.counts.items ≡ take l.session (received_counts l.self)
