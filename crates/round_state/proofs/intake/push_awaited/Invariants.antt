-- the reads so far that wait
use Rattle.std.proofs.Common.{◌≡◌, ◌++◌, take}
use Rattle.round_state.specs.Awaiting.{awaited_of}
use Rattle.round_state.proofs.intake.push_awaited.Given as goal

abbrev pub invariant-loop-place : goal.invariant-loop-place
invariant-loop-place l = l.awaited.items ≡ l.fn.awaited.items ++ awaited_of l.marks l.reader (take l.place l.reads)
