use Rattle.std.proofs.Common.{take}
use Rattle.session_clocks.specs.Reach.{Reaches}
use Rattle.clock_choices.specs.Picks.{IsLinkedWithAll, Picks}
use Rattle.clock_choices.proofs.among.linked_among.Given as goal

abbrev pub invariant-loop-id : goal.invariant-loop-id
invariant-loop-id l = Picks (IsLinkedWithAll (Reaches l.graph.gone l.graph.received l.graph.arcs) l.runs) (take l.id-index l.ids) l.picked.items
