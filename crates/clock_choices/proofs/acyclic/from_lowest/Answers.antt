use Rattle.std.proofs.Common.{List, Option, take, subst}
use Rattle.std.specs.Prelude.{MatchOption}
use Rattle.txn.specs.declared.choices.Arc.{Arc}
use Rattle.session_clocks.specs.Paths.{IsPathOf}
use Rattle.session_clocks.specs.Reach.{Reaches}
use Rattle.clock_choices.proofs.acyclic.from_lowest.Goals as goal

pub returns-in-Some-2 : goal.returns-in-Some-2
returns-in-Some-2 c =
    let graph = c.args.graph.now in
    let id = c.in-Some.low in
    let some = take c.args.front graph.arcs in
    let found = subst (λ (f : Option (List Arc)). MatchOption f (¬ Reaches graph.gone graph.received some id id) (λ p. Reaches graph.gone graph.received some id id × IsPathOf graph.gone graph.received some id p id)) c.in-Some-2.is c.in_ok-better.ensures in
    (c.args.front, id, found.1)
