-- the index has the pending reads of the sessions so far
use Rattle.round_state.specs.Tracked.{IsIndexBelow}
use Rattle.round_state.proofs.tracking.index_of.Given as goal

abbrev pub invariant-loop-session : goal.invariant-loop-session
invariant-loop-session l = IsIndexBelow l.waits l.parts l.session
