-- the sessions so far are closed where they were
use Rattle.round_state.specs.Behind.{IsClosedBelow}
use Rattle.round_state.proofs.catching_up.close_all_closed.Given as goal

abbrev pub invariant-loop-session : goal.invariant-loop-session
invariant-loop-session l = IsClosedBelow l.known.parts l.parts l.session
