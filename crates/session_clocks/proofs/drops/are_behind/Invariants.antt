use Rattle.std.proofs.Common.{ℕ, ◌<◌, get_or}
use Rattle.session_clocks.specs.Drops.{IsBehind, first_left}
use Rattle.session_clocks.proofs.drops.are_behind.Given as goal

abbrev pub invariant-loop-session : goal.invariant-loop-session
invariant-loop-session l = (k : ℕ) → k < l.session → get_or l.gone k 0 < get_or l.received k 0 → IsBehind l.were l.first l.gone (first_left l.gone k)
