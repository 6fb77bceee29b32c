use Rattle.std.proofs.Common.{[], arith}
use Rattle.session_clocks.proofs.Kept.{IsKept-none}
use Rattle.session_clocks.proofs.Marked.{IsTrail-none}
use Rattle.session_clocks.proofs.NodesKept.{AreNodes-none}
use Rattle.session_clocks.proofs.graph.Graph.new.Goals as goal

pub invariant_of-result : goal.invariant_of-result
invariant_of-result c =
    let kept = IsKept-none c.args.gone.now c.in_ok-first.first.items c.in_ok-count.count.items c.requires (λ i. let fits = c.type_inv.gone i in omega (arith, fits)) c.in_ok-first.ensures c.in_ok-count.ensures in
    rw (c.in_ok-gone.ensures.items, c.in_ok-received.ensures.items, c.new-arcs.ensures.items) (
      (record {
        kept = kept;
        marked = IsTrail-none c.args.gone.now c.args.gone.now kept.sessions [] c.in_ok-first.first.items c.in_ok-count.count.items c.new-trail.result c.new-trail.ensures.marks c.new-trail.ensures.first c.new-trail.ensures.count;
      }),
      AreNodes-none c.args.gone.now c.in_ok-nodes.nodes.nodes.slots c.in_ok-nodes.nodes.keys.items c.in_ok-nodes.ensures.nodes c.in_ok-nodes.ensures.keys,
    )
