use Rattle.clock_choices.proofs.NewCycles.{none_closed}
use Rattle.clock_choices.proofs.acyclic.on_any_cycle.Goals as goal

pub returns-in-None : goal.returns-in-None
returns-in-None c =
    let graph = c.args.graph.now in
    none_closed graph.gone graph.received graph.arcs c.args.front c.requires.within (rw c.in-None.is at c.on_new_cycle.ensures) c.requires.none
