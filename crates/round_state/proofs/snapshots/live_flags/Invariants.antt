use Rattle.std.proofs.Common.{◌≡◌, map, not, take}
use Rattle.round_state.proofs.snapshots.live_flags.Given as goal

abbrev pub invariant-loop-is_closed : goal.invariant-loop-is_closed
invariant-loop-is_closed l = l.live.items ≡ map not (take l.is_closed-index l.closed)
