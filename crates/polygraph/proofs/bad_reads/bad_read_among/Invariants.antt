use Rattle.std.proofs.Common.{take}
use Rattle.polygraph.specs.Reading.{HaveNoBadRead}
use Rattle.polygraph.proofs.bad_reads.bad_read_among.Given as goal

abbrev pub invariant-loop-id : goal.invariant-loop-id
invariant-loop-id l = HaveNoBadRead l.parts (take l.id-index l.ids)
