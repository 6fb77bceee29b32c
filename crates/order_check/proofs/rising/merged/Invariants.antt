use Rattle.std.proofs.Common.{◌≡◌, ◌≤◌, ◌++◌, length, drop}
use Rattle.order_check.proofs.RisingLists.{overlaid}
use Rattle.order_check.proofs.rising.merged.Given as goal

abbrev pub invariant-loop-entry : goal.invariant-loop-entry
invariant-loop-entry l = record { within : l.from ≤ length l.older; same : l.all.items ++ overlaid (drop l.entry-index l.newer) (drop l.from l.older) ≡ overlaid l.newer l.older }
