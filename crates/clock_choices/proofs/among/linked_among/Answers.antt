use Rattle.std.proofs.Common.{[], List, sym, subst}
use Rattle.txn.specs.declared.transactions.TxnId.{TxnId}
use Rattle.session_clocks.specs.Reach.{Reaches}
use Rattle.clock_choices.specs.Picks.{IsLinkedWithAll, Picks, no_more}
use Rattle.clock_choices.proofs.Picking.{picks_more}
use Rattle.clock_choices.proofs.among.linked_among.Goals as goal

pub loop-id-init : goal.loop-id-init
loop-id-init c =
    let graph = c.args.graph.now in
    subst (λ (picked : List TxnId). Picks (IsLinkedWithAll (Reaches graph.gone graph.received graph.arcs) c.args.runs.now) [] picked) (sym c.new-picked.ensures.items) no_more

pub loop-id-preserved : goal.loop-id-preserved
loop-id-preserved c =
    let graph = c.args.graph.now in
    picks_more (IsLinkedWithAll (Reaches graph.gone graph.received graph.arcs) c.args.runs.now) c.args.ids.now c.loop-id.picked.items c.push_linked.new.picked.items c.loop-id.id-index _ c.loop-id-test.true c.loop-id.invariant c.in_ok-push_linked.ensures
