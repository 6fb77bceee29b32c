-- The seat is of the same word.
use Rattle.std.proofs.Common.{◌≡◌}
use Rattle.demonstration_tests.proofs.publishing.seen_at_last.Given as goal

abbrev pub invariant-loop-turn : goal.invariant-loop-turn
invariant-loop-turn g l = l.seat.word ≡ l.latest
