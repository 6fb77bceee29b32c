-- the marks of the sessions so far
use Rattle.round_state.specs.Tracked.{AreFirstMarks}
use Rattle.round_state.proofs.tracking.marks_of.Given as goal

abbrev pub invariant-loop-session : goal.invariant-loop-session
invariant-loop-session l = AreFirstMarks l.sessions.items l.parts l.session
