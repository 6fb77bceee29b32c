use Rattle.std.proofs.Common.{[], subst}
use Rattle.std.specs.Prelude.{◌↔◌}
use Rattle.order_check.specs.Known.{Known}
use Rattle.session_clocks.specs.Reach.{Reaches}
use Rattle.clock_choices.specs.SaturatedState.{SaturatedState}
use Rattle.clock_choices.proofs.CaughtUp.{held_known}
use Rattle.clock_choices.proofs.saturated.Saturated.graph.Goals as goal

pub returns-clause-exact : goal.returns-clause-exact
returns-clause-exact c = λ a b.
    let s = c.self.inside in
    subst (λ (state : SaturatedState). Reaches s.graph.gone s.graph.received s.graph.arcs a b ↔ Known state.parts [] a b) c.self.view_is (held_known s.parts s.graph.gone s.graph.received s.graph.arcs s.steps.items c.self.invariant.1 a b)
