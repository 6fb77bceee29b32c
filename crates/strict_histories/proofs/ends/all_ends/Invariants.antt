use Rattle.std.proofs.Common.{take}
use Rattle.strict_histories.specs.Ends.{AreAllEndsOf}
use Rattle.strict_histories.proofs.ends.all_ends.Given as goal

abbrev pub invariant-loop-txns : goal.invariant-loop-txns
invariant-loop-txns l = AreAllEndsOf (take l.txns-index l.timed) l.all.items
