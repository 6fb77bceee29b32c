-- The seat is of the same word.
use Rattle.std.proofs.Common.{◌≡◌}
use Rattle.live_tests.proofs.verdicts.look_on.Given as goal

abbrev pub invariant-loop-turn : goal.invariant-loop-turn
invariant-loop-turn l = l.seat.word ≡ l.latest
