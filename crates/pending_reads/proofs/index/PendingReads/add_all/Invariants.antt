-- The reads so far wait too.
use Rattle.std.proofs.Common.{take}
use Rattle.pending_reads.specs.Waiting.{HasAlso}
use Rattle.pending_reads.proofs.index.PendingReads.add_all.Given as goal

abbrev pub invariant-loop-place : goal.invariant-loop-place
invariant-loop-place l = HasAlso l.fn.self l.self (take l.place l.reads)
