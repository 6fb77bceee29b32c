use Rattle.std.proofs.Common.{◌∙◌, sym}
use Rattle.std.proofs.lemmas.Bool.{false≢true}
use Rattle.order_check.proofs.CountedFronts.{not_received, view_has}
use Rattle.order_check.proofs.fronts.Front.remaining_at.Goals as goal

pub returns : goal.returns
returns c =
    c.remaining_at.ensures
    ∙ view_has c.args.self.now c.self.inside.parts.now c.self.inside.counts.now c.args.id c.self.view_is c.self.invariant.0 c.self.invariant.1 (c.is_received.ensures.0 c.if-not-is_received.false)

pub returns-then-not-is_received : goal.returns-then-not-is_received
returns-then-not-is_received c = sym (not_received c.args.self.now c.args.id (λ received. false≢true (sym c.if-not-is_received.true ∙ c.is_received.ensures.1 received)))
