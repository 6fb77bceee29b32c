use Rattle.truncate.specs.TakenOut.{AreCutBelow}
use Rattle.truncate.proofs.fronts.drop_fronts.Given as goal

abbrev pub invariant-loop-session : goal.invariant-loop-session
invariant-loop-session l = AreCutBelow l.gone l.session l.initial.sessions.items l.sessions.items
