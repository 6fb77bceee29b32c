use Rattle.std.proofs.Common.{◌≡◌, ◌∙◌, ap, subst, List, ℕ, Vec, Global}
use Rattle.session_clocks.specs.Lines.{AreSameNumbers}
use Rattle.session_clocks.specs.Marks.{marks_of}
use Rattle.session_clocks.proofs.Kept.{IsKept-same}
use Rattle.session_clocks.proofs.Marked.{IsTrail-same, IsTrail-copy}
use Rattle.session_clocks.proofs.NodesKept.{AreNodes-same}
use Rattle.session_clocks.proofs.graph.GraphClone.clone.Goals as goal

same_gone : (c : goal.In_ok-trail) → c.in_ok-gone.gone.items ≡ c.self.inside.gone.items
same_gone c = c.in_ok-gone.ensures.items ∙ c.deref.ensures.value

same_received : (c : goal.In_ok-trail) → c.in_ok-received.received.items ≡ c.self.inside.received.items
same_received c = c.in_ok-received.ensures.items ∙ c.deref-2.ensures.value

same_arcs : (c : goal.In_ok-trail) → c.in_ok-arcs.arcs.items ≡ c.self.inside.arcs.items
same_arcs c = c.in_ok-arcs.ensures.items ∙ c.deref-5.ensures.value

pub invariant_of-result : goal.invariant_of-result
invariant_of-result c =
    let graph = c.self.inside in
    let gone = graph.gone.items in
    let received = graph.received.items in
    let arcs = graph.arcs.items in
    let kept = c.self.invariant.0.kept in
    let first = c.in_ok-first.first.items in
    let count = c.in_ok-count.count.items in
    let same_first = subst (λ (lines : List (Vec ℕ Global)). AreSameNumbers lines first) c.deref-3.ensures.value c.in_ok-first.ensures in
    let same_count = subst (λ (lines : List (Vec ℕ Global)). AreSameNumbers lines count) c.deref-4.ensures.value c.in_ok-count.ensures in
    let trail = IsTrail-same gone received kept.sessions arcs graph.first.items graph.count.items first count graph.trail same_first same_count c.self.invariant.0.marked in
    rw (same_gone c, same_received c, same_arcs c) (
      (record {
        kept = IsKept-same gone received arcs graph.first.items graph.count.items kept first count same_first same_count;
        marked = IsTrail-copy gone received arcs first count graph.trail c.in_ok-trail.trail c.in_ok-trail.ensures.marks c.in_ok-trail.ensures.first c.in_ok-trail.ensures.count trail;
      }),
      AreNodes-same gone received graph.nodes.nodes.slots c.in_ok-nodes.nodes.nodes.slots graph.nodes.keys.items c.in_ok-nodes.nodes.keys.items c.in_ok-nodes.ensures.nodes c.in_ok-nodes.ensures.keys c.self.invariant.1,
    )

pub returns : goal.returns
returns c = record { cases = (λ i. record { gone = same_gone c i; received = same_received c i; arcs = same_arcs c i; marks = ap marks_of c.in_ok-trail.ensures.marks i }) ∙ c.self.view_is }
