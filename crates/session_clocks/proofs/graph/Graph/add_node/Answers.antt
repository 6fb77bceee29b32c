use Rattle.std.proofs.Common.{◌≡◌, ◌+◌, ◌-◌, ◌^◌, ◌<◌, ℕ, List, Vec, Global, length, get_or, set, arith, sym, ap, subst, subst₂, ◌∙◌}
use Rattle.std.specs.Vec.{with_items}
use Rattle.std.proofs.lemmas.List.{with_items_is, get_or_read}
use Rattle.session_clocks.specs.Marks.{IsMarkedGraph}
use Rattle.session_clocks.specs.Graphs.{GraphState, IsOneMore}
use Rattle.session_clocks.proofs.Added.{count_rows, IsOneMore-set}
use Rattle.session_clocks.proofs.Kept.{IsKept-same}
use Rattle.session_clocks.proofs.Marked.{IsTrail-same, IsTrail-none}
use Rattle.session_clocks.proofs.Next.{IsKept-next}
use Rattle.session_clocks.proofs.NodesKept.{AreNodes-same, AreNodes-more}
use Rattle.txn.specs.declared.transactions.TxnId.{TxnId}
use Rattle.session_clocks.proofs.graph.Graph.add_node.Goals as goal

pub push_node-requires-clause-rows : goal.push_node-requires-clause-rows
push_node-requires-clause-rows c =
    let graph = c.self.inside in
    let within = subst (λ (s : GraphState). c.args.session < length s.gone) (sym c.self.view_is) c.requires.session in
    rw (c.deref_mut-2.ensures.value, c.len.ensures, graph.gone.ok.0) (count_rows graph.gone.items graph.received.items graph.arcs.items graph.first.items graph.count.items c.self.invariant.0.kept c.args.session within)

pub push_node-requires-clause-keys : goal.push_node-requires-clause-keys
push_node-requires-clause-keys c =
    let within = subst (λ (s : GraphState). c.args.session < length s.gone) (sym c.self.view_is) c.requires.session in
    omega (arith, within, c.self.invariant.1.sessions)

pub invariant_of-self : goal.invariant_of-self
invariant_of-self c =
    let graph = c.self.inside in
    let same_first = rw c.deref_mut.ensures.value at c.in_err-push_node.ensures.first_err in
    let same_count = rw c.deref_mut-2.ensures.value at c.in_err-push_node.ensures.count_err in
    let first : (with_items graph.first c.push_node.new.first).items ≡ c.push_node.new.first = with_items_is graph.first c.push_node.new.first (same_first.sessions ∙ sym graph.first.ok.0) in
    let count : (with_items graph.count c.push_node.new.count).items ≡ c.push_node.new.count = with_items_is graph.count c.push_node.new.count (same_count.sessions ∙ sym graph.count.ok.0) in (
      subst₂ (λ (f n : List (Vec ℕ Global)). IsMarkedGraph graph.gone.items graph.received.items graph.arcs.items f n graph.trail) (sym first) (sym count) record {
        kept = IsKept-same graph.gone.items graph.received.items graph.arcs.items graph.first.items graph.count.items c.self.invariant.0.kept c.push_node.new.first c.push_node.new.count same_first same_count;
        marked = IsTrail-same graph.gone.items graph.received.items c.self.invariant.0.kept.sessions graph.arcs.items graph.first.items graph.count.items c.push_node.new.first c.push_node.new.count graph.trail same_first same_count c.self.invariant.0.marked;
      },
      AreNodes-same graph.gone.items graph.received.items graph.nodes.nodes.slots c.push_node.new.nodes.nodes.slots graph.nodes.keys.items c.push_node.new.nodes.keys.items c.in_err-push_node.ensures.nodes_err c.in_err-push_node.ensures.keys_err c.self.invariant.1,
    )

pub invariant_of-self-2 : goal.invariant_of-self-2
invariant_of-self-2 c =
    let graph = c.self.inside in
    let session = c.from-line.result in
    let kept = c.self.invariant.0.kept in
    let within : session < length graph.gone.items = rw c.from-line.ensures (subst (λ (s : GraphState). c.args.session < length s.gone) (sym c.self.view_is) c.requires.session) in
    let inside : session < length graph.received.items = omega (arith, kept.sessions, within) in
    let number : c.index-number.result.now ≡ get_or graph.received.items session 0 = get_or_read graph.received.items session c.index-number.result.now inside c.index-number.ensures 0 in
    let room : get_or graph.received.items session 0 < 2 ^ 64 - 1 = rw c.from-line.ensures (subst (λ (s : GraphState). get_or s.received c.args.session 0 < 2 ^ 64 - 1) (sym c.self.view_is) c.requires.number) in
    let has_first = rw (c.deref_mut.ensures.value, number, c.len.ensures, graph.gone.ok.0, ← c.from-line.ensures) at c.in_ok-push_node.ensures.first in
    let has_count = rw (c.deref_mut-2.ensures.value, number, c.len.ensures, graph.gone.ok.0, ← c.from-line.ensures) at c.in_ok-push_node.ensures.count in
    let next = IsOneMore-set graph.received.items session (c.index-number.result.now + 1) inside (ap (λ (n : ℕ). n + 1) number) in
    let first : (with_items graph.first c.push_node.new.first).items ≡ c.push_node.new.first = with_items_is graph.first c.push_node.new.first (has_first.others.sessions ∙ sym graph.first.ok.0) in
    let count : (with_items graph.count c.push_node.new.count).items ≡ c.push_node.new.count = with_items_is graph.count c.push_node.new.count (has_count.others.sessions ∙ sym graph.count.ok.0) in
    let now = set graph.received.items session (c.index-number.result.now + 1) in
    let kept_now = IsKept-next graph.gone.items graph.received.items (set graph.received.items session (c.index-number.result.now + 1)) graph.arcs.items session next graph.first.items graph.count.items c.push_node.new.first c.push_node.new.count kept within room has_first has_count in
    let id : TxnId = record { session = c.args.session; number = c.index-number.result.now } in
    let next_id = subst (λ (s : ℕ). IsOneMore graph.received.items now s) c.from-line.ensures next in
    let within_id = subst (λ (s : ℕ). s < length graph.gone.items) c.from-line.ensures within in
    let number_id = number ∙ ap (λ (s : ℕ). get_or graph.received.items s 0) c.from-line.ensures in
    let nodes = AreNodes-more graph.gone.items graph.received.items now id next_id kept.sessions within_id (kept.order c.args.session) number_id graph.nodes.nodes.slots c.push_node.new.nodes.nodes.slots graph.nodes.keys.items c.push_node.new.nodes.keys.items c.in_ok-push_node.ensures.node c.self.invariant.1 in (
      subst₂ (λ (f n : List (Vec ℕ Global)). IsMarkedGraph graph.gone.items now graph.arcs.items f n c.clear.new.self) (sym first) (sym count) record {
        kept = kept_now;
        marked = IsTrail-none graph.gone.items now kept_now.sessions graph.arcs.items c.push_node.new.first c.push_node.new.count c.clear.new.self c.clear.ensures.marks c.clear.ensures.first c.clear.ensures.count;
      },
      nodes,
    )
