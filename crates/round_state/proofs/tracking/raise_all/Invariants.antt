-- the sessions so far are raised
use Rattle.round_state.specs.Tracked.{AreRaisedBelow}
use Rattle.round_state.proofs.tracking.raise_all.Given as goal

abbrev pub invariant-loop-session : goal.invariant-loop-session
invariant-loop-session l = AreRaisedBelow l.marks l.parts l.session
