use Rattle.std.proofs.Common.{take}
use Rattle.strict_histories.specs.Ends.{AreEndsOf}
use Rattle.strict_histories.proofs.ends.ends_of.Given as goal

abbrev pub invariant-loop-place : goal.invariant-loop-place
invariant-loop-place l = AreEndsOf (take l.place l.txns) l.ends.items
