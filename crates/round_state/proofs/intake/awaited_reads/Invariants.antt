-- the reads of the transactions so far that wait
use Rattle.std.proofs.Common.{◌≡◌, take}
use Rattle.round_state.specs.Awaiting.{awaited_from}
use Rattle.round_state.proofs.intake.awaited_reads.Given as goal

abbrev pub invariant-loop-place : goal.invariant-loop-place
invariant-loop-place l = l.awaited.items ≡ awaited_from l.marks l.session l.first (take l.place l.txns)
