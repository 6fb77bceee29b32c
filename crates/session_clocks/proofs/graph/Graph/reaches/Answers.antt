use Rattle.std.proofs.Common.{refl, sym, subst, ◌∙◌}
use Rattle.std.proofs.lemmas.Bool.{false≢true}
use Rattle.session_clocks.specs.Graphs.{GraphState}
use Rattle.session_clocks.specs.Reach.{Reaches}
use Rattle.session_clocks.proofs.Kept.{HasRow-first, both_there}
use Rattle.session_clocks.proofs.graph.Graph.reaches.Goals as goal

pub returns-then-not-are_there-clause-exact : goal.returns-then-not-are_there-clause-exact
returns-then-not-are_there-clause-exact c = (
  λ e. absurd (false≢true e),
  λ is. absurd (
      let graph = c.self.inside in
      let here = subst (λ (s : GraphState). Reaches s.gone s.received s.arcs c.args.from c.args.to) (sym c.self.view_is) is in
      let there = both_there graph.gone.items graph.received.items graph.arcs.items graph.first.items graph.count.items c.self.invariant.0.kept c.args.from c.args.to here in
      let known = rw (c.deref.ensures.value, c.deref-2.ensures.value) at ((c.are_there.ensures).1) in
      false≢true (sym c.if-not-are_there.true ∙ known there)),
)

pub clock-requires-clause-row : goal.clock-requires-clause-row
clock-requires-clause-row c =
    let graph = c.self.inside in
    let there = (rw (c.deref.ensures.value, c.deref-2.ensures.value, c.if-not-are_there.false) at ((c.are_there.ensures).0)) refl in
    rw (c.deref-3.ensures.value, c.deref-4.ensures.value) (HasRow-first graph.gone.items graph.received.items graph.arcs.items graph.first.items graph.count.items c.self.invariant.0.kept c.args.from there.0)
