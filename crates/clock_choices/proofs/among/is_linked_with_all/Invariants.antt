use Rattle.std.proofs.Common.{take}
use Rattle.session_clocks.specs.Reach.{Reaches}
use Rattle.clock_choices.specs.Picks.{IsLinkedWithAll}
use Rattle.clock_choices.proofs.among.is_linked_with_all.Given as goal

abbrev pub invariant-loop-run : goal.invariant-loop-run
invariant-loop-run l = IsLinkedWithAll (Reaches l.graph.gone l.graph.received l.graph.arcs) (take l.run-index l.runs) l.id
