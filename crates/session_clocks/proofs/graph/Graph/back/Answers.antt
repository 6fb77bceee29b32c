use Rattle.std.proofs.Common.{◌≡◌, ◌∷◌, ◌∙◌, ap, sym, subst, length, arith, All}
use Rattle.std.specs.Prelude.{reverse}
use Rattle.std.proofs.lemmas.List.{with_items_is}
use Rattle.list_lemmas.proofs.Ends.{reverse_push}
use Rattle.session_clocks.specs.Marks.{IsTrailOf, SayFirsts, SayCounts}
use Rattle.session_clocks.specs.SavedNumbers.{IsWithin}
use Rattle.session_clocks.proofs.Marked.{IsTrailOf-back, said_back, IsKept-back, respects-firsts, respects-counts}
use Rattle.session_clocks.proofs.NodesKept.{AreNodes-linked}
use Rattle.session_clocks.proofs.graph.Graph.back.Goals as goal

pub put_back-requires-clause-within : goal.put_back-requires-clause-within
put_back-requires-clause-within c = subst (λ lines. All (IsWithin lines) c.self.inside.trail.first.items) (sym c.deref_mut.ensures.value) c.self.invariant.0.marked.firsts.within

pub put_back-requires-clause-some : goal.put_back-requires-clause-some
put_back-requires-clause-some c =
    let graph = c.self.inside in
    let marks : reverse graph.trail.marks.items ≡ c.in-Some.mark ∷ reverse c.pop.new.self.items = ap (λ ms. reverse ms) c.in-Some.ensures.items ∙ reverse_push c.pop.new.self.items c.in-Some.mark in
    let trail = subst (λ ms. IsTrailOf (SayFirsts graph.gone.items graph.received.items) (λ mark. mark.first) graph.arcs.items graph.first.items graph.trail.first.items ms) marks c.self.invariant.0.marked.firsts in
    trail.marked.1

pub put_back-requires-2-clause-within : goal.put_back-requires-2-clause-within
put_back-requires-2-clause-within c = subst (λ lines. All (IsWithin lines) c.self.inside.trail.count.items) (sym c.deref_mut-2.ensures.value) c.self.invariant.0.marked.counts.within

pub put_back-requires-2-clause-some : goal.put_back-requires-2-clause-some
put_back-requires-2-clause-some c =
    let graph = c.self.inside in
    let marks : reverse graph.trail.marks.items ≡ c.in-Some.mark ∷ reverse c.pop.new.self.items = ap (λ ms. reverse ms) c.in-Some.ensures.items ∙ reverse_push c.pop.new.self.items c.in-Some.mark in
    let trail = subst (λ ms. IsTrailOf (SayCounts graph.gone.items graph.received.items) (λ mark. mark.count) graph.arcs.items graph.count.items graph.trail.count.items ms) marks c.self.invariant.0.marked.counts in
    trail.marked.1

pub invariant_of-self : goal.invariant_of-self
invariant_of-self c =
    let graph = c.self.inside in
    let marks : reverse graph.trail.marks.items ≡ c.in-Some.mark ∷ reverse c.pop.new.self.items = ap (λ ms. reverse ms) c.in-Some.ensures.items ∙ reverse_push c.pop.new.self.items c.in-Some.mark in
    let gone = graph.gone.items in
    let received = graph.received.items in
    let arcs = graph.arcs.items in
    let kept = c.self.invariant.0.kept in
    let firsts = subst (λ ms. IsTrailOf (SayFirsts gone received) (λ mark. mark.first) arcs graph.first.items graph.trail.first.items ms) marks c.self.invariant.0.marked.firsts in
    let counts = subst (λ ms. IsTrailOf (SayCounts gone received) (λ mark. mark.count) arcs graph.count.items graph.trail.count.items ms) marks c.self.invariant.0.marked.counts in
    let mark = c.in-Some.mark in
    let rest = reverse c.pop.new.self.items in
    let first_is = with_items_is graph.first c.put_back.new.lines (omega (arith, c.put_back.ensures.long.sessions, ap length c.deref_mut.ensures.value, graph.first.ok.0)) in
    let count_is = with_items_is graph.count c.put_back-2.new.lines (omega (arith, c.put_back-2.ensures.long.sessions, ap length c.deref_mut-2.ensures.value, graph.count.ok.0)) in
    let first_long = rw c.deref_mut.ensures.value at c.put_back.ensures.long in
    let first_numbers = rw c.deref_mut.ensures.value at c.put_back.ensures.numbers in
    let count_long = rw c.deref_mut-2.ensures.value at c.put_back-2.ensures.long in
    let count_numbers = rw c.deref_mut-2.ensures.value at c.put_back-2.ensures.numbers in
    let said_firsts = said_back (SayFirsts gone received) (λ mark. mark.first) (respects-firsts gone received kept.sessions) arcs graph.first.items c.put_back.new.lines graph.trail.first.items mark rest first_long first_numbers firsts in
    let said_counts = said_back (SayCounts gone received) (λ mark. mark.count) (respects-counts gone received kept.sessions) arcs graph.count.items c.put_back-2.new.lines graph.trail.count.items mark rest count_long count_numbers counts in (
      record {
        kept = rw (first_is, count_is, c.truncate.ensures.items) (IsKept-back gone received arcs graph.first.items graph.count.items c.put_back.new.lines c.put_back-2.new.lines mark.arcs first_long count_long said_firsts said_counts kept);
        marked = record {
          firsts = rw (first_is, c.truncate.ensures.items, c.put_back.ensures.saved) (IsTrailOf-back (SayFirsts gone received) (λ mark. mark.first) (respects-firsts gone received kept.sessions) arcs graph.first.items c.put_back.new.lines graph.trail.first.items mark rest first_long first_numbers firsts);
          counts = rw (count_is, c.truncate.ensures.items, c.put_back-2.ensures.saved) (IsTrailOf-back (SayCounts gone received) (λ mark. mark.count) (respects-counts gone received kept.sessions) arcs graph.count.items c.put_back-2.new.lines graph.trail.count.items mark rest count_long count_numbers counts);
        };
      },
      AreNodes-linked gone received graph.nodes.nodes.slots c.take_back.new.self.nodes.slots graph.nodes.keys c.take_back.new.self.keys c.take_back.ensures.nodes c.take_back.ensures.keys c.self.invariant.1,
    )
