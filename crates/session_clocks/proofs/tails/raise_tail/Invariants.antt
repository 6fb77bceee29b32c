use Rattle.std.proofs.Common.{ℕ, ◌<◌, ◌≤◌, length}
use Rattle.session_clocks.specs.Rows.{number_at}
use Rattle.session_clocks.specs.Tails.{IsRaising}
use Rattle.session_clocks.proofs.tails.raise_tail.Given as goal

abbrev pub invariant-loop-i : goal.invariant-loop-i
invariant-loop-i l = record {
  raising : IsRaising l.initial.numbers l.numbers l.row l.from l.i l.rows;
  below : (at : ℕ) → l.from ≤ at → at < l.i → number_at (length l.row) l.initial.numbers at l.session ≤ l.number;
}
