use Rattle.std.proofs.Common.{◌≡◌, ◌↔◌, ℕ, List, Vec, Global, set, arith, sym, subst, subst₂, ◌∙◌}
use Rattle.std.specs.Vec.{with_items}
use Rattle.std.proofs.lemmas.List.{with_items_is}
use Rattle.txn.specs.declared.transactions.TxnId.{TxnId}
use Rattle.session_clocks.specs.Graphs.{GraphState, HasNode, IsOneMore}
use Rattle.session_clocks.specs.Marks.{IsMarkedGraph}
use Rattle.session_clocks.specs.Reach.{IsThere, Reaches}
use Rattle.session_clocks.specs.Removals.{IsLast, IsUntouched}
use Rattle.session_clocks.proofs.Marked.{IsTrail-none}
use Rattle.session_clocks.proofs.Removed.{IsKept-without, id_within, without_next, without_rest, without_row}
use Rattle.session_clocks.proofs.NodesKept.{AreNodes-less}
use Rattle.session_clocks.proofs.graph.Graph.remove_node.Goals as goal

pub pop_row-requires : goal.pop_row-requires
pop_row-requires c =
    let graph = c.self.inside in
    let kept = c.self.invariant.0.kept in
    let id = c.args.id in
    let there = subst (λ (s : GraphState). HasNode s id) (sym c.self.view_is) c.requires.there in
    let last = subst (λ (s : GraphState). IsLast s.received id) (sym c.self.view_is) c.requires.last in
    let free = subst (λ (s : GraphState). IsUntouched s.arcs id) (sym c.self.view_is) c.requires.untouched in
    let within = id_within graph.gone.items graph.received.items graph.arcs.items graph.first.items graph.count.items kept id there last free in
    rw (c.deref_mut.ensures.value, c.from-line.ensures, c.len-width.ensures, graph.gone.ok.0) record {
      session = omega (arith, within, kept.first_lines.sessions);
      row = without_row graph.gone.items graph.received.items graph.arcs.items graph.first.items graph.count.items kept id there last free graph.first.items kept.first_lines;
    }

pub pop_row-requires-2 : goal.pop_row-requires-2
pop_row-requires-2 c =
    let graph = c.self.inside in
    let kept = c.self.invariant.0.kept in
    let id = c.args.id in
    let there = subst (λ (s : GraphState). HasNode s id) (sym c.self.view_is) c.requires.there in
    let last = subst (λ (s : GraphState). IsLast s.received id) (sym c.self.view_is) c.requires.last in
    let free = subst (λ (s : GraphState). IsUntouched s.arcs id) (sym c.self.view_is) c.requires.untouched in
    let within = id_within graph.gone.items graph.received.items graph.arcs.items graph.first.items graph.count.items kept id there last free in
    rw (c.deref_mut-2.ensures.value, c.from-line.ensures, c.len-width.ensures, graph.gone.ok.0) record {
      session = omega (arith, within, kept.count_lines.sessions);
      row = without_row graph.gone.items graph.received.items graph.arcs.items graph.first.items graph.count.items kept id there last free graph.count.items kept.count_lines;
    }

pub pop-requires : goal.pop-requires
pop-requires c =
    let graph = c.self.inside in
    let kept = c.self.invariant.0.kept in
    let are = c.self.invariant.1 in
    let id = c.args.id in
    let there = subst (λ (s : GraphState). HasNode s id) (sym c.self.view_is) c.requires.there in
    let last = subst (λ (s : GraphState). IsLast s.received id) (sym c.self.view_is) c.requires.last in
    let free = subst (λ (s : GraphState). IsUntouched s.arcs id) (sym c.self.view_is) c.requires.untouched in
    let within = id_within graph.gone.items graph.received.items graph.arcs.items graph.first.items graph.count.items kept id there last free in
    let rows = are.rows id.session within in
    rw c.from-line.ensures record {
      session = omega (arith, within, are.sessions);
      some = omega (arith, rows, there.0, there.1);
    }

pub invariant_of-self : goal.invariant_of-self
invariant_of-self c =
    let graph = c.self.inside in
    let kept = c.self.invariant.0.kept in
    let id = c.args.id in
    let there = subst (λ (s : GraphState). HasNode s id) (sym c.self.view_is) c.requires.there in
    let last = subst (λ (s : GraphState). IsLast s.received id) (sym c.self.view_is) c.requires.last in
    let free = subst (λ (s : GraphState). IsUntouched s.arcs id) (sym c.self.view_is) c.requires.untouched in
    let less_first = rw (c.deref_mut.ensures.value, c.from-line.ensures, c.len-width.ensures, graph.gone.ok.0) at c.pop_row.ensures in
    let less_count = rw (c.deref_mut-2.ensures.value, c.from-line.ensures, c.len-width.ensures, graph.gone.ok.0) at c.pop_row-2.ensures in
    let first : (with_items graph.first c.pop_row.new.lines).items ≡ c.pop_row.new.lines = with_items_is graph.first c.pop_row.new.lines (less_first.others.sessions ∙ sym graph.first.ok.0) in
    let count : (with_items graph.count c.pop_row-2.new.lines).items ≡ c.pop_row-2.new.lines = with_items_is graph.count c.pop_row-2.new.lines (less_count.others.sessions ∙ sym graph.count.ok.0) in
    let kept_now = IsKept-without graph.gone.items graph.received.items graph.arcs.items graph.first.items graph.count.items kept id there last free c.pop_row.new.lines c.pop_row-2.new.lines less_first less_count in
    let now : IsMarkedGraph graph.gone.items (set graph.received.items id.session id.number) graph.arcs.items (with_items graph.first c.pop_row.new.lines).items (with_items graph.count c.pop_row-2.new.lines).items c.clear.new.self =
    subst₂ (λ (f n : List (Vec ℕ Global)). IsMarkedGraph graph.gone.items (set graph.received.items id.session id.number) graph.arcs.items f n c.clear.new.self) (sym first) (sym count) record {
      kept = kept_now;
      marked = IsTrail-none graph.gone.items (set graph.received.items id.session id.number) kept_now.sessions graph.arcs.items c.pop_row.new.lines c.pop_row-2.new.lines c.clear.new.self c.clear.ensures.marks c.clear.ensures.first c.clear.ensures.count;
    } in
    let within = id_within graph.gone.items graph.received.items graph.arcs.items graph.first.items graph.count.items kept id there last free in
    let next = without_next graph.gone.items graph.received.items graph.arcs.items graph.first.items graph.count.items kept id there last free in
    let less = rw c.from-line.ensures at c.pop.ensures in
    let nodes = AreNodes-less graph.gone.items (set graph.received.items id.session id.number) graph.received.items id.session next kept_now.sessions within (kept_now.order id.session) graph.nodes.nodes.slots c.pop.new.self.nodes.slots graph.nodes.keys.items c.pop.new.self.keys.items less c.self.invariant.1 in
    rw c.from-line.ensures (now, nodes)

pub returns-clause-received : goal.returns-clause-received
returns-clause-received c =
    let graph = c.self.inside in
    let kept = c.self.invariant.0.kept in
    let id = c.args.id in
    let there = subst (λ (s : GraphState). HasNode s id) (sym c.self.view_is) c.requires.there in
    let last = subst (λ (s : GraphState). IsLast s.received id) (sym c.self.view_is) c.requires.last in
    let free = subst (λ (s : GraphState). IsUntouched s.arcs id) (sym c.self.view_is) c.requires.untouched in
    let next = without_next graph.gone.items graph.received.items graph.arcs.items graph.first.items graph.count.items kept id there last free in
    rw c.from-line.ensures (subst (λ (s : GraphState). IsOneMore (set graph.received.items id.session id.number) s.received id.session) c.self.view_is next)

pub returns-clause-rest : goal.returns-clause-rest
returns-clause-rest c =
    let graph = c.self.inside in
    let kept = c.self.invariant.0.kept in
    let id = c.args.id in
    let there = subst (λ (s : GraphState). HasNode s id) (sym c.self.view_is) c.requires.there in
    let last = subst (λ (s : GraphState). IsLast s.received id) (sym c.self.view_is) c.requires.last in
    let free = subst (λ (s : GraphState). IsUntouched s.arcs id) (sym c.self.view_is) c.requires.untouched in
    let rest = without_rest graph.gone.items graph.received.items graph.arcs.items graph.first.items graph.count.items kept id there last free in
    let fewer = set graph.received.items id.session id.number in
    let here = subst (λ (s : GraphState). (a b : TxnId) → Reaches graph.gone.items fewer graph.arcs.items a b ↔ (Reaches s.gone s.received s.arcs a b × IsThere graph.gone.items fewer a × IsThere graph.gone.items fewer b)) c.self.view_is rest in
    rw c.from-line.ensures here
