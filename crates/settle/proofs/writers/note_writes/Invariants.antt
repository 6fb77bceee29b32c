use Rattle.std.proofs.Common.{take}
use Rattle.settle.specs.Writers.{AreNoted}
use Rattle.settle.proofs.writers.note_writes.Given as goal

abbrev pub invariant-loop-write : goal.invariant-loop-write
invariant-loop-write l = AreNoted l.known.parts (take l.write-index l.writes) l.last
