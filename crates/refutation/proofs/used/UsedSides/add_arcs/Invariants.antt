use Rattle.std.proofs.Common.{take}
use Rattle.refutation.proofs.UsedArcs.{Notes}
use Rattle.refutation.proofs.used.UsedSides.add_arcs.Given as goal

abbrev pub invariant-loop-arc : goal.invariant-loop-arc
invariant-loop-arc l = Notes l.initial.self l.self (take l.arc-index l.arcs) l.skipped
