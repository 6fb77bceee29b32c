use Rattle.std.proofs.Common.{◌∙◌, ◌∷◌, Option, Some, ap, refl}
use Rattle.polygraph.specs.declared.solving.Cube.{Cube}
use Rattle.shared_search.proofs.Gathering.{walked_no, walked_spent, walked_yes}
use Rattle.shared_search.proofs.picking.walk.Goals as goal

pub returns-in-Yes : goal.returns-in-Yes
returns-in-Yes c =
    let is = c.in-Some.ensures.items ∙ ap (λ (o : Option Cube). o ∷ c.pop_front.new.self.items) (c.in-Some-slot.is ∙ ap (λ (k : Cube). Some k) c.in-Yes.is) in
    walked_yes _ _ _ _ _ _ _ c.loop-slot.invariant is refl

pub loop-slot-preserved-in-Continue-1 : goal.loop-slot-preserved-in-Continue-1
loop-slot-preserved-in-Continue-1 c =
    let is = c.in-Some.ensures.items ∙ ap (λ (o : Option Cube). o ∷ c.pop_front.new.self.items) (c.in-Some-slot.is ∙ ap (λ (k : Cube). Some k) c.in-No.is) in
    walked_no _ _ _ _ _ _ _ c.loop-slot.invariant is c.in_ok-push-in-No.ensures.items

pub loop-slot-preserved : goal.loop-slot-preserved
loop-slot-preserved c =
    let is = c.in-Some.ensures.items ∙ ap (λ (o : Option Cube). o ∷ c.pop_front.new.self.items) (c.in-Some-slot.is ∙ ap (λ (k : Cube). Some k) c.in-Spent.is) in
    walked_spent _ _ _ _ _ c.loop-slot.invariant is
