use Rattle.std.proofs.Common.{take}
use Rattle.settle.specs.Writers.{GainsWrites}
use Rattle.settle.proofs.writers.push_writes.Given as goal

abbrev pub invariant-loop-key : goal.invariant-loop-key
invariant-loop-key l = GainsWrites (take l.key-index l.keys) l.id l.initial.writes.items l.writes.items
