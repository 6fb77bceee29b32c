use Rattle.std.proofs.Common.{◌≡◌, take}
use Rattle.session_clocks.specs.Reach.{Reaches}
use Rattle.clock_choices.specs.Ranks.{ids_of}
use Rattle.clock_choices.proofs.Counting.{AreCounted}
use Rattle.clock_choices.proofs.ranks.ranks_in.Given as goal

abbrev pub invariant-loop-id : goal.invariant-loop-id
invariant-loop-id l = record { ids : ids_of l.ranks.items ≡ take l.id-index l.ids; counts : AreCounted (Reaches l.graph.gone l.graph.received l.graph.arcs) l.ids l.ranks.items }
