-- nothing waits any more for the transactions so far
use Rattle.std.proofs.Common.{◌-◌}
use Rattle.round_state.specs.Awaiting.{HaveArrived}
use Rattle.round_state.proofs.intake.arrive_all.Given as goal

abbrev pub invariant-loop-number : goal.invariant-loop-number
invariant-loop-number l = HaveArrived l.fn.waits l.waits l.session l.first (l.number - l.first)
