use Rattle.std.proofs.Common.{take}
use Rattle.truncate.specs.Overruled.{AreOverruled}
use Rattle.truncate.proofs.writers.overruled.Given as goal

abbrev pub invariant-loop-entry : goal.invariant-loop-entry
invariant-loop-entry l = AreOverruled (take l.entry-index l.entry-items) l.writers l.all
