use Rattle.std.proofs.Common.{take}
use Rattle.settle.specs.Writers.{AreWritesOf}
use Rattle.settle.proofs.writers.writes_among.Given as goal

abbrev pub invariant-loop-id : goal.invariant-loop-id
invariant-loop-id l = AreWritesOf l.parts (take l.id-index l.ids) l.writes.items
