use Rattle.std.proofs.Common.{◌≡◌, ◌↔◌, ◌≤◌, ℕ, IsTrue, length, get_or, sym, subst, arith}
use Rattle.session_clocks.specs.Drops.{NoneReachesBack, first_left}
use Rattle.session_clocks.specs.Graphs.{GraphState}
use Rattle.session_clocks.proofs.Behind.{none_reaches, are_behind, first_there}
use Rattle.session_clocks.proofs.Kept.{HasRow-first}
use Rattle.session_clocks.proofs.graph.Graph.can_drop.Goals as goal

pub are_behind-requires : goal.are_behind-requires
are_behind-requires c =
    let graph = c.self.inside in
    let kept = c.self.invariant.0.kept in
    let sessions = subst (λ (s : GraphState). length c.args.gone.now ≡ length s.gone) (sym c.self.view_is) c.requires.sessions in
    let more = subst (λ (s : GraphState). (session : ℕ) → get_or s.gone session 0 ≤ get_or c.args.gone.now session 0) (sym c.self.view_is) c.requires.more in
    let within = subst (λ (s : GraphState). (session : ℕ) → get_or c.args.gone.now session 0 ≤ get_or s.received session 0) (sym c.self.view_is) c.requires.within in
    rw (c.deref.ensures.value, c.deref-2.ensures.value, c.deref-3.ensures.value) record {
      few = omega (arith, sessions, kept.few);
      sessions = sessions;
      received = kept.sessions;
      rows = λ session inside some. HasRow-first graph.gone.items graph.received.items graph.arcs.items graph.first.items graph.count.items kept (first_left c.args.gone.now session)
          (first_there graph.gone.items graph.received.items graph.arcs.items graph.first.items graph.count.items kept c.args.gone.now sessions more within session some);
    }

pub returns : goal.returns
returns c =
    let graph = c.self.inside in
    let kept = c.self.invariant.0.kept in
    let sessions = subst (λ (s : GraphState). length c.args.gone.now ≡ length s.gone) (sym c.self.view_is) c.requires.sessions in
    let more = subst (λ (s : GraphState). (session : ℕ) → get_or s.gone session 0 ≤ get_or c.args.gone.now session 0) (sym c.self.view_is) c.requires.more in
    let within = subst (λ (s : GraphState). (session : ℕ) → get_or c.args.gone.now session 0 ≤ get_or s.received session 0) (sym c.self.view_is) c.requires.within in
    let behind = rw (c.deref.ensures.value, c.deref-2.ensures.value, c.deref-3.ensures.value) at c.are_behind.ensures in
    subst (λ (s : GraphState). IsTrue c.are_behind.result ↔ NoneReachesBack s.gone s.received s.arcs c.args.gone.now) c.self.view_is (
      λ is. none_reaches graph.gone.items graph.received.items graph.arcs.items graph.first.items graph.count.items kept c.args.gone.now sessions more within (behind.0 is),
      λ none. behind.1 (are_behind graph.gone.items graph.received.items graph.arcs.items graph.first.items graph.count.items kept c.args.gone.now sessions more within none),
    )
