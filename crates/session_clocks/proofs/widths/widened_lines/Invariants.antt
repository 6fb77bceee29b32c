use Rattle.std.proofs.Common.{◌≡◌, ℕ, ◌-◌, ◌<◌, get_or, length}
use Rattle.session_clocks.specs.Rows.{line_at}
use Rattle.session_clocks.specs.Widths.{IsWidened}
use Rattle.session_clocks.proofs.widths.widened_lines.Given as goal

abbrev pub invariant-loop-session : goal.invariant-loop-session
invariant-loop-session l = record {
  len : length l.wide.items ≡ l.session;
  each : (k : ℕ) → k < l.session → IsWidened (line_at l.lines k) (line_at l.wide.items k) (get_or l.received k 0 - get_or l.gone k 0) (length l.gone) l.number;
}
