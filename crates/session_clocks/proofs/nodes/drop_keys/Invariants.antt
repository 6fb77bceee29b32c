use Rattle.std.proofs.Common.{◌≡◌, ℕ, ◌-◌, ◌<◌, ◌≤◌, length, get_or}
use Rattle.session_clocks.specs.Rows.{line_at}
use Rattle.session_clocks.specs.Drops.{IsDropped}
use Rattle.session_clocks.proofs.nodes.drop_keys.Given as goal

abbrev pub invariant-loop-session : goal.invariant-loop-session
invariant-loop-session l = record {
  sessions : length l.keys ≡ length l.initial.keys;
  done : (k : ℕ) → k < l.session → IsDropped (line_at l.initial.keys k) (line_at l.keys k) (get_or l.gone k 0 - get_or l.were k 0);
  rest : (k : ℕ) → l.session ≤ k → line_at l.keys k ≡ line_at l.initial.keys k;
}
