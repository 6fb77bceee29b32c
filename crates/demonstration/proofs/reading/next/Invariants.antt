use Rattle.std.proofs.Common.{◌≡◌}
use Rattle.demonstration.proofs.reading.next.Given as goal

abbrev pub invariant-loop : goal.invariant-loop
invariant-loop g l = (l.reader.ring ≡ l.fn.reader.ring) × (l.reader.received ≡ l.fn.reader.received)
