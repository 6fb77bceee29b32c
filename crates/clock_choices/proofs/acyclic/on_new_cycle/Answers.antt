use Rattle.std.proofs.Common.{◌≡◌, ◌<◌, List, length, sym, subst, ◌∙◌}
use Rattle.txn.specs.declared.choices.Arc.{Arc}
use Rattle.txn.specs.declared.transactions.TxnId.{TxnId}
use Rattle.session_clocks.specs.Reach.{IsThere}
use Rattle.clock_choices.proofs.NewCycles.{closed_by}
use Rattle.clock_choices.proofs.acyclic.on_new_cycle.Goals as goal

pub returns-then-reaches : goal.returns-then-reaches
returns-then-reaches c =
    let graph = c.args.graph.now in
    let own = c.arcs-arcs.result.now in
    let k = c.loop-place.place in
    let within : k < length graph.arcs = subst (λ (xs : List Arc). k < length xs) c.arcs-arcs.ensures c.loop-place-test.true in
    let reached = c.reaches.ensures.exact.0 c.if-reaches.true in
    let there = c.reaches.ensures.there c.if-reaches.true in
    let same : c.start.result ≡ c.start-then-reaches.result = c.start.ensures ∙ sym c.start-then-reaches.ensures in (
      subst (λ (id : TxnId). IsThere graph.gone graph.received id) same there.1,
      closed_by graph.gone graph.received graph.arcs own k c.start-then-reaches.result c.start.result c.end.result c.arcs-arcs.ensures within c.start-then-reaches.ensures c.start.ensures c.end.ensures reached,
    )
