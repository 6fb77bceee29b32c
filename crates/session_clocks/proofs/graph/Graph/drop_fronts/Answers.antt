use Rattle.std.proofs.Common.{arith, ◌≡◌, ◌≤◌, ◌↔◌, ℕ, List, Vec, Global, filter, length, get_or, sym, subst, subst₂, ◌∙◌}
use Rattle.std.specs.Vec.{with_items}
use Rattle.std.proofs.lemmas.List.{with_items_is}
use Rattle.txn.specs.declared.transactions.TxnId.{TxnId}
use Rattle.session_clocks.specs.Marks.{IsMarkedGraph}
use Rattle.session_clocks.specs.Drops.{arc_stays}
use Rattle.session_clocks.specs.Graphs.{GraphState}
use Rattle.session_clocks.specs.Reach.{IsThere, Reaches}
use Rattle.session_clocks.proofs.Marked.{IsTrail-none}
use Rattle.session_clocks.proofs.Dropped.{IsKept-dropped, Reaches-left, Reaches-was, rest_there}
use Rattle.session_clocks.proofs.NodesKept.{AreNodes-dropped}
use Rattle.session_clocks.proofs.graph.Graph.drop_fronts.Goals as goal

pub drop_fronts-requires : goal.drop_fronts-requires
drop_fronts-requires c =
    let graph = c.self.inside in
    let are = c.self.invariant.1 in
    let sessions = subst (λ (s : GraphState). length c.args.gone.now ≡ length s.gone) (sym c.self.view_is) c.requires.sessions in
    let more = subst (λ (s : GraphState). (session : ℕ) → get_or s.gone session 0 ≤ get_or c.args.gone.now session 0) (sym c.self.view_is) c.requires.more in
    let within = subst (λ (s : GraphState). (session : ℕ) → get_or c.args.gone.now session 0 ≤ get_or s.received session 0) (sym c.self.view_is) c.requires.within in
    rw c.deref-3.ensures.value record {
      were = sym are.sessions;
      gone = sessions ∙ sym are.sessions;
      more = more;
      within = λ session few. let r = are.rows session (omega (arith, few, are.sessions)) in let m = within session in omega (arith, r, m);
    }

pub invariant_of-self : goal.invariant_of-self
invariant_of-self c =
    let graph = c.self.inside in
    let sessions = subst (λ (s : GraphState). length c.args.gone.now ≡ length s.gone) (sym c.self.view_is) c.requires.sessions in
    let more = subst (λ (s : GraphState). (session : ℕ) → get_or s.gone session 0 ≤ get_or c.args.gone.now session 0) (sym c.self.view_is) c.requires.more in
    let within = subst (λ (s : GraphState). (session : ℕ) → get_or c.args.gone.now session 0 ≤ get_or s.received session 0) (sym c.self.view_is) c.requires.within in
    let before = subst (λ (s : GraphState). (id other : TxnId) → IsThere c.args.gone.now s.received id → ¬ IsThere c.args.gone.now s.received other → ¬ Reaches s.gone s.received s.arcs id other) (sym c.self.view_is) c.requires.before in
    let dropped_first = rw (c.deref_mut.ensures.value, c.deref.ensures.value) at c.drop_rows.ensures in
    let dropped_count = rw (c.deref_mut-2.ensures.value, c.deref-2.ensures.value) at c.drop_rows-2.ensures in
    let first : (with_items graph.first c.drop_rows.new.lines).items ≡ c.drop_rows.new.lines = with_items_is graph.first c.drop_rows.new.lines (dropped_first.sessions ∙ sym graph.first.ok.0) in
    let count : (with_items graph.count c.drop_rows-2.new.lines).items ≡ c.drop_rows-2.new.lines = with_items_is graph.count c.drop_rows-2.new.lines (dropped_count.sessions ∙ sym graph.count.ok.0) in
    let left = filter (arc_stays c.args.gone.now) graph.arcs.items in
    let kept_now = IsKept-dropped graph.gone.items graph.received.items graph.arcs.items graph.first.items graph.count.items c.self.invariant.0.kept c.args.gone.now sessions more within before c.drop_rows.new.lines c.drop_rows-2.new.lines dropped_first dropped_count in
    let marked = subst₂ (λ (f n : List (Vec ℕ Global)). IsMarkedGraph c.args.gone.now graph.received.items left f n c.clear.new.self) (sym first) (sym count) (record {
      kept = kept_now;
      marked = IsTrail-none c.args.gone.now graph.received.items kept_now.sessions left c.drop_rows.new.lines c.drop_rows-2.new.lines c.clear.new.self c.clear.ensures.marks c.clear.ensures.first c.clear.ensures.count;
    }) in
    let dropped_keys = rw c.deref-3.ensures.value at c.drop_fronts.ensures.keys in
    let nodes = AreNodes-dropped graph.gone.items graph.received.items c.args.gone.now c.self.invariant.0.kept.sessions sessions more within graph.nodes.nodes.slots c.drop_fronts.new.self.nodes.slots graph.nodes.keys.items c.drop_fronts.new.self.keys.items
    c.drop_fronts.ensures.nodes c.drop_fronts.ensures.sessions dropped_keys c.self.invariant.1 in
    rw (c.copy_from_slice.ensures.items, c.drop_arcs.ensures) (marked, nodes)

pub returns-clause-rest : goal.returns-clause-rest
returns-clause-rest c =
    let graph = c.self.inside in
    let sessions = subst (λ (s : GraphState). length c.args.gone.now ≡ length s.gone) (sym c.self.view_is) c.requires.sessions in
    let more = subst (λ (s : GraphState). (session : ℕ) → get_or s.gone session 0 ≤ get_or c.args.gone.now session 0) (sym c.self.view_is) c.requires.more in
    let within = subst (λ (s : GraphState). (session : ℕ) → get_or c.args.gone.now session 0 ≤ get_or s.received session 0) (sym c.self.view_is) c.requires.within in
    let before = subst (λ (s : GraphState). (id other : TxnId) → IsThere c.args.gone.now s.received id → ¬ IsThere c.args.gone.now s.received other → ¬ Reaches s.gone s.received s.arcs id other) (sym c.self.view_is) c.requires.before in
    let rest : (a b : TxnId) → Reaches c.args.gone.now graph.received.items (filter (arc_stays c.args.gone.now) graph.arcs.items) a b ↔ (Reaches graph.gone.items graph.received.items graph.arcs.items a b × IsThere c.args.gone.now graph.received.items a × IsThere c.args.gone.now graph.received.items b) = λ a b. (
      λ is.
          let there = rest_there graph.gone.items graph.received.items graph.arcs.items graph.first.items graph.count.items c.self.invariant.0.kept c.args.gone.now sessions more within before a b is in
          (Reaches-was graph.gone.items graph.received.items graph.arcs.items graph.first.items graph.count.items c.self.invariant.0.kept c.args.gone.now sessions more within before is, there.0, there.1),
      λ was. Reaches-left graph.gone.items graph.received.items graph.arcs.items graph.first.items graph.count.items c.self.invariant.0.kept c.args.gone.now sessions more within before was.1 was.0,
    ) in
    let here = subst (λ (s : GraphState). (a b : TxnId) → Reaches c.args.gone.now graph.received.items (filter (arc_stays c.args.gone.now) graph.arcs.items) a b ↔ (Reaches s.gone s.received s.arcs a b × IsThere c.args.gone.now graph.received.items a × IsThere c.args.gone.now graph.received.items b)) c.self.view_is rest in
    rw (c.copy_from_slice.ensures.items, c.drop_arcs.ensures) here
