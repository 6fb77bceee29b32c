use Rattle.std.proofs.Common.{◌≡◌, [], ap, subst, sym}
use Rattle.order_check.specs.declared.remainder.Parts.{Parts}
use Rattle.order_check.specs.Known.{Known}
use Rattle.clock_choices.specs.SaturatedState.{SaturatedState}
use Rattle.clock_choices.proofs.CaughtUp.{held_known}
use Rattle.clock_choices.proofs.saturated.Saturated.reaches.Goals as goal

pub returns : goal.returns
returns c =
    let s = c.self.inside in
    let own : s.parts ≡ c.args.self.now.parts = ap (λ (one : SaturatedState). one.parts) c.self.view_is in
    let held = held_known s.parts s.graph.gone s.graph.received s.graph.arcs s.steps.items c.self.invariant.1 c.args.earlier c.args.later in
    let exact = c.reaches.ensures.exact in (
      (λ yes. subst (λ (p : Parts). Known p [] c.args.earlier c.args.later) own (held.0 (exact.0 yes))),
      (λ known. exact.1 (held.1 (subst (λ (p : Parts). Known p [] c.args.earlier c.args.later) (sym own) known))),
    )
