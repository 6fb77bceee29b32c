use Rattle.std.proofs.Common.{List, Option, length, take, subst}
use Rattle.std.specs.Prelude.{MatchOption}
use Rattle.txn.specs.declared.choices.Arc.{Arc}
use Rattle.session_clocks.specs.Paths.{IsPathOf}
use Rattle.session_clocks.specs.Reach.{Reaches}
use Rattle.clock_choices.proofs.acyclic.way_round.Goals as goal

pub returns : goal.returns
returns c =
    let graph = c.args.graph.now in
    let id = c.args.id in
    let some = take (length c.arcs-len.result.now) graph.arcs in
    let found = subst (λ (f : Option (List Arc)). MatchOption f (¬ Reaches graph.gone graph.received some id id) (λ p. Reaches graph.gone graph.received some id id × IsPathOf graph.gone graph.received some id p id)) c.in-Some-2.is c.in_ok-path-2.ensures in
    (length c.arcs-len.result.now, id, found.1)
