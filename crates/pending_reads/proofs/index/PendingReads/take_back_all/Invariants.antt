-- What was added before others that are taken back still waits.
use Rattle.std.proofs.Common.{◌≤◌, length, take}
use Rattle.pending_reads.specs.Waiting.{Index, HasAlso}
use Rattle.pending_reads.proofs.index.PendingReads.take_back_all.Given as goal

abbrev pub invariant-loop-left : goal.invariant-loop-left
invariant-loop-left l = record {
  low : l.left ≤ length l.reads;
  kept : (before : Index) → HasAlso before l.fn.self l.reads → HasAlso before l.self (take l.left l.reads);
}

abbrev pub decreases-loop-left : goal.decreases-loop-left
decreases-loop-left l = l.left
