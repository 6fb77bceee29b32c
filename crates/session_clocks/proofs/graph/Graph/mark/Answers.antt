use Rattle.std.proofs.Common.{◌≡◌, ◌∷◌, ◌∙◌, ap, sym, subst}
use Rattle.std.specs.Prelude.{reverse}
use Rattle.list_lemmas.proofs.Ends.{reverse_push}
use Rattle.session_clocks.specs.declared.trail.Mark.{Mark}
use Rattle.session_clocks.specs.Marks.{IsTrailOf, SayFirsts, SayCounts}
use Rattle.session_clocks.proofs.Marked.{IsTrailOf-mark, respects-firsts, respects-counts}
use Rattle.session_clocks.proofs.graph.Graph.mark.Goals as goal

pub invariant_of-self-2 : goal.invariant_of-self-2
invariant_of-self-2 c =
    let graph = c.self.inside in
    let trail = graph.trail in
    let kept = c.self.invariant.0.kept in
    let gone = graph.gone.items in
    let received = graph.received.items in
    let arcs = graph.arcs.items in
    let mark : Mark = record { arcs = c.len.result; first = c.len-2.result; count = c.len-3.result } in
    let marks : reverse c.push.new.self.items ≡ mark ∷ reverse trail.marks.items = ap (λ ms. reverse ms) c.in_ok-push.ensures.items ∙ reverse_push trail.marks.items mark in (
      record {
        kept = kept;
        marked = record {
          firsts = subst (λ ms. IsTrailOf (SayFirsts gone received) (λ mark. mark.first) arcs graph.first.items trail.first.items ms) (sym marks)
              (IsTrailOf-mark (SayFirsts gone received) (λ mark. mark.first) (respects-firsts gone received kept.sessions) arcs graph.first.items trail.first.items mark (reverse trail.marks.items) (c.len.ensures ∙ graph.arcs.ok.0) (c.len-2.ensures ∙ trail.first.ok.0) kept.firsts c.self.invariant.0.marked.firsts);
          counts = subst (λ ms. IsTrailOf (SayCounts gone received) (λ mark. mark.count) arcs graph.count.items trail.count.items ms) (sym marks)
              (IsTrailOf-mark (SayCounts gone received) (λ mark. mark.count) (respects-counts gone received kept.sessions) arcs graph.count.items trail.count.items mark (reverse trail.marks.items) (c.len.ensures ∙ graph.arcs.ok.0) (c.len-3.ensures ∙ trail.count.ok.0) kept.counts c.self.invariant.0.marked.counts);
        };
      },
      c.self.invariant.1,
    )
