use Rattle.std.proofs.Common.{◌≡◌, map, not, take}
use Rattle.order_check.proofs.fronts.closed_flags.Given as goal

abbrev pub invariant-loop-is_open : goal.invariant-loop-is_open
invariant-loop-is_open l = l.closed.items ≡ map not (take l.is_open-index l.live)
