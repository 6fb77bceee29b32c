use Rattle.refutation.proofs.UsedArcs.{HasBoth}
use Rattle.refutation.proofs.used.UsedSides.add_all.Given as goal

abbrev pub invariant-loop-side : goal.invariant-loop-side
invariant-loop-side l = HasBoth l.initial.self l.self l.yielded
