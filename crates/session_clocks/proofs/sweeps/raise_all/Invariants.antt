use Rattle.std.proofs.Common.{◌≡◌, ℕ, ◌-◌, ◌<◌, ◌≤◌, min, get_or}
use Rattle.session_clocks.specs.Rows.{line_at}
use Rattle.session_clocks.specs.Tails.{IsRaised}
use Rattle.session_clocks.specs.Sweeps.{AreAsLong}
use Rattle.session_clocks.proofs.sweeps.raise_all.Given as goal

abbrev pub invariant-loop-line : goal.invariant-loop-line
invariant-loop-line l = record {
  long : AreAsLong l.initial.lines l.lines;
  done : (k : ℕ) → k < l.line → IsRaised (line_at l.initial.lines k) (line_at l.lines k) l.start.session l.start.number l.row (min (get_or l.starts k 0 - get_or l.gone k 0) (get_or l.received k 0 - get_or l.gone k 0)) (get_or l.received k 0 - get_or l.gone k 0);
  rest : (k : ℕ) → l.line ≤ k → line_at l.lines k ≡ line_at l.initial.lines k;
}
