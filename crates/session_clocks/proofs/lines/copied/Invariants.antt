use Rattle.std.proofs.Common.{◌≡◌, ℕ, ◌<◌, length}
use Rattle.session_clocks.specs.Rows.{line_at}
use Rattle.session_clocks.proofs.lines.copied.Given as goal

abbrev pub invariant-loop-i : goal.invariant-loop-i
invariant-loop-i l = record {
  len : length l.copy.items ≡ l.i;
  each : (k : ℕ) → k < l.i → line_at l.copy.items k ≡ line_at l.lines k;
}
