use Rattle.truncate.specs.TakenOut.{AreRaisedBelow}
use Rattle.truncate.proofs.fronts.raise.Given as goal

abbrev pub invariant-loop-session : goal.invariant-loop-session
invariant-loop-session l = AreRaisedBelow l.gone l.session l.initial.marks l.marks
