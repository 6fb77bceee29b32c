-- the sessions so far are caught up
use Rattle.round_state.specs.Behind.{IsCaughtBelow}
use Rattle.round_state.proofs.catching_up.add_all_new.Given as goal

abbrev pub invariant-loop-session : goal.invariant-loop-session
invariant-loop-session l = IsCaughtBelow l.known.parts l.parts l.session
