-- The last report's kind so far, and what was read, where all of it was kept.
use Rattle.std.proofs.Common.{◌≡◌, true}
use Rattle.demonstration.specs.Reading.{last_kind}
use Rattle.demonstration.proofs.reading.read_all.Given as goal

abbrev pub invariant-loop : goal.invariant-loop
invariant-loop g l =
    (l.reader.ring ≡ l.fn.reader.ring) × (l.last ≡ last_kind l.reader.received) × (l.kept.is_whole ≡ true → l.kept.entries ≡ l.reader.received)
