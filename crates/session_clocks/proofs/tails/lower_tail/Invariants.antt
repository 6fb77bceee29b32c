use Rattle.std.proofs.Common.{ℕ, ◌<◌, ◌≤◌, length}
use Rattle.session_clocks.specs.Rows.{number_at}
use Rattle.session_clocks.specs.Tails.{IsLowering}
use Rattle.session_clocks.proofs.tails.lower_tail.Given as goal

abbrev pub invariant-loop-i : goal.invariant-loop-i
invariant-loop-i l = record {
  lowering : IsLowering l.initial.numbers l.numbers l.row l.i l.top;
  above : (at : ℕ) → l.i ≤ at → at < l.top → l.number < number_at (length l.row) l.initial.numbers at l.session;
}
