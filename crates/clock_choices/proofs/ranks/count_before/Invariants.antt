use Rattle.session_clocks.specs.Reach.{Reaches}
use Rattle.clock_choices.specs.AllThere.{there_below}
use Rattle.clock_choices.specs.Ranks.{Counts}
use Rattle.clock_choices.proofs.ranks.count_before.Given as goal

abbrev pub invariant-loop-session : goal.invariant-loop-session
invariant-loop-session l = Counts (λ other. Reaches l.graph.gone l.graph.received l.graph.arcs other l.id) (there_below l.graph.gone l.graph.received l.session) l.count
