use Rattle.std.proofs.Common.{◌≡◌, ◌∙◌, true, Bool, List, sym, ap, subst}
use Rattle.std.specs.Prelude.{IfSome, slice_set}
use Rattle.order_check.specs.Good.{IsGood}
use Rattle.clock_choices.specs.Held.{IsHeld}
use Rattle.clock_choices.specs.SharedIndexes.{IsIndexIn}
use Rattle.clock_choices.proofs.SameParts.{good_closed, held_closed, shared_closed}
use Rattle.clock_choices.proofs.saturated.Saturated.close.Goals as goal

pub invariant_of-self : goal.invariant_of-self
invariant_of-self c =
    let parts = c.self.inside.parts in
    let graph = c.self.inside.graph in
    let flags : c.set.new.self ≡ slice_set parts.closed c.args.session true = c.set.ensures ∙ ap (λ place. slice_set parts.closed place true) c.from.ensures in (
      subst (λ (closed : List Bool). IsGood (record parts { closed = closed })) (sym flags) (good_closed parts c.args.session c.self.invariant.0),
      subst (λ (closed : List Bool). IsHeld (record parts { closed = closed }) graph.gone graph.received graph.arcs c.self.inside.steps.items) (sym flags) (held_closed parts c.args.session graph.gone graph.received graph.arcs c.self.inside.steps.items c.self.invariant.1),
      subst (λ (closed : List Bool). IfSome c.self.inside.index (IsIndexIn (record parts { closed = closed }))) (sym flags) (shared_closed parts c.args.session c.self.inside.index c.self.invariant.2),
      tt,
    )
