use Rattle.std.proofs.Common.{Option, ap, ◌≡◌, ◌↔◌, ◌∷◌, ◌++◌, [], ◌<◌, ◌^◌, List, length, arith, sym, subst, ◌∙◌}
use Rattle.txn.specs.declared.transactions.TxnId.{TxnId}
use Rattle.session_clocks.specs.Graphs.{GraphState}
use Rattle.session_clocks.specs.Reach.{Reaches}
use Rattle.session_clocks.proofs.Marked.{IsTrail-none}
use Rattle.session_clocks.proofs.Widened.{IsKept-wide, Reaches-same}
use Rattle.session_clocks.specs.declared.nodes.Node.{Node}
use Rattle.session_clocks.specs.Nodes.{AreNodes}
use Rattle.session_clocks.proofs.NodesKept.{AreNodes-wide}
use Rattle.session_clocks.proofs.graph.Graph.add_session.Goals as goal

pub widened_lines-requires : goal.widened_lines-requires
widened_lines-requires c =
    let kept = c.self.invariant.0.kept in
    rw (c.deref.ensures.value, c.deref-2.ensures.value, c.deref-3.ensures.value) record {
      gone = sym kept.first_lines.sessions;
      received = kept.sessions ∙ sym kept.first_lines.sessions;
      order = kept.order;
      rows = λ session within. kept.first_lines.rows session (omega (arith, within, kept.first_lines.sessions));
    }

pub widened_lines-requires-2 : goal.widened_lines-requires-2
widened_lines-requires-2 c =
    let kept = c.self.invariant.0.kept in
    rw (c.deref-4.ensures.value, c.deref-5.ensures.value, c.deref-6.ensures.value) record {
      gone = sym kept.count_lines.sessions;
      received = kept.sessions ∙ sym kept.count_lines.sessions;
      order = kept.order;
      rows = λ session within. kept.count_lines.rows session (omega (arith, within, kept.count_lines.sessions));
    }

pub invariant_of-self-2 : goal.invariant_of-self-2
invariant_of-self-2 c =
    let graph = c.self.inside in
    let kept = c.self.invariant.0.kept in
    let few : length graph.gone.items < 256 = subst (λ (s : GraphState). length s.gone < 256) (sym c.self.view_is) c.requires in
    let first = rw (c.deref.ensures.value, c.deref-2.ensures.value, c.deref-3.ensures.value) at c.in_ok-first.ensures in
    let counts = rw (c.deref-4.ensures.value, c.deref-5.ensures.value, c.deref-6.ensures.value) at c.in_ok-counts.ensures in
    let gone : c.in_ok-gone.gone.items ≡ graph.gone.items ++ c.args.count ∷ [] = rw c.deref-7.ensures.value at c.in_ok-gone.ensures in
    let received : c.in_ok-received.received.items ≡ graph.received.items ++ c.args.count ∷ [] = rw c.deref-8.ensures.value at c.in_ok-received.ensures in
    let fits : c.args.count < 2 ^ 64 = omega (arith, c.ranges.count) in
    let wide = IsKept-wide graph.gone.items graph.received.items graph.arcs.items kept.sessions c.args.count graph.first.items graph.count.items c.in_ok-first.first.items c.in_ok-counts.counts.items kept few fits first counts in
    let slots : c.add_session.new.self.nodes.slots ≡ graph.nodes.nodes.slots = ap (λ s. s.slots) c.add_session.ensures.nodes in
    let nodes = subst (λ (slots : List (Option Node)). AreNodes (graph.gone.items ++ c.args.count ∷ []) (graph.received.items ++ c.args.count ∷ []) slots c.add_session.new.self.keys.items) (sym slots)
    (AreNodes-wide graph.gone.items graph.received.items kept.sessions c.args.count graph.nodes.nodes.slots graph.nodes.keys.items c.add_session.new.self.keys.items c.in_ok-add_session.ensures.ok c.self.invariant.1) in
    rw (gone, received) (
      (record {
        kept = wide;
        marked = IsTrail-none (graph.gone.items ++ c.args.count ∷ []) (graph.received.items ++ c.args.count ∷ []) wide.sessions graph.arcs.items c.in_ok-first.first.items c.in_ok-counts.counts.items c.clear.new.self c.clear.ensures.marks c.clear.ensures.first c.clear.ensures.count;
      }),
      nodes,
    )

pub returns-clause-same : goal.returns-clause-same
returns-clause-same c =
    let graph = c.self.inside in
    let gone : c.in_ok-gone.gone.items ≡ graph.gone.items ++ c.args.count ∷ [] = rw c.deref-7.ensures.value at c.in_ok-gone.ensures in
    let received : c.in_ok-received.received.items ≡ graph.received.items ++ c.args.count ∷ [] = rw c.deref-8.ensures.value at c.in_ok-received.ensures in
    let same = Reaches-same graph.gone.items graph.received.items graph.arcs.items c.self.invariant.0.kept.sessions c.args.count in
    rw (gone, received) (subst (λ (s : GraphState). (a b : TxnId) → Reaches (graph.gone.items ++ c.args.count ∷ []) (graph.received.items ++ c.args.count ∷ []) graph.arcs.items a b ↔ Reaches s.gone s.received s.arcs a b) c.self.view_is same)
