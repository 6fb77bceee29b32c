use Rattle.std.proofs.Common.{take}
use Rattle.txn.specs.History.{reads_in}
use Rattle.order_check.specs.Based.{remaining_at}
use Rattle.polygraph.specs.Reading.{AreGoodReads}
use Rattle.polygraph.proofs.bad_reads.bad_read_of.Given as goal

abbrev pub invariant-loop-read : goal.invariant-loop-read
invariant-loop-read l = AreGoodReads l.parts (take l.read-index (reads_in (remaining_at l.parts l.reader)))
