use Rattle.std.proofs.Common.{List, length, sym, subst}
use Rattle.txn.specs.declared.choices.Arc.{Arc}
use Rattle.clock_choices.specs.Acyclic.{AreAcyclic}
use Rattle.clock_choices.proofs.NewCycles.{acyclic_all, none_closed}
use Rattle.clock_choices.proofs.acyclic.acyclic_in.Goals as goal

pub returns-in-None : goal.returns-in-None
returns-in-None c =
    let graph = c.args.graph.now in
    subst (λ (xs : List Arc). AreAcyclic graph.gone graph.received graph.arcs (length xs)) (sym c.arcs.ensures)
    (acyclic_all graph.gone graph.received graph.arcs (none_closed graph.gone graph.received graph.arcs c.args.front c.requires.within c.in-None.ensures c.requires.none))
