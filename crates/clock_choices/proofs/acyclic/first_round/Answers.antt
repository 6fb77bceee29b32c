use Rattle.std.proofs.Common.{◌+◌, List, Option, take, subst}
use Rattle.std.specs.Prelude.{MatchOption}
use Rattle.txn.specs.declared.choices.Arc.{Arc}
use Rattle.session_clocks.specs.Paths.{IsPathOf}
use Rattle.session_clocks.specs.Reach.{Reaches}
use Rattle.clock_choices.proofs.acyclic.first_round.Goals as goal

pub from_lowest-requires-clause-round : goal.from_lowest-requires-clause-round
from_lowest-requires-clause-round c =
    let graph = c.args.graph.now in
    let id = c.start-start.result in
    let front = c.in-Some.place + 1 in
    let some = take front graph.arcs in
    let found = subst (λ (f : Option (List Arc)). MatchOption f (¬ Reaches graph.gone graph.received some id id) (λ p. Reaches graph.gone graph.received some id id × IsPathOf graph.gone graph.received some id p id)) c.in-Some-2.is c.in_ok-path.ensures in
    (front, id, found.1)
