use Rattle.std.proofs.Common.{◌≡◌, ℕ, ◌<◌, ◌≤◌, get_or, length}
use Rattle.clock_tests.proofs.nodes.fronts_before.Given as goal

abbrev pub invariant-loop-session : goal.invariant-loop-session
invariant-loop-session l = record {
  len : length l.fronts.items ≡ l.session;
  more : (k : ℕ) → k < l.session → get_or l.graph.gone k 0 ≤ get_or l.fronts.items k 0;
  within : (k : ℕ) → k < l.session → get_or l.fronts.items k 0 ≤ get_or l.graph.received k 0;
}
