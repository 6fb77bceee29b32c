use Rattle.std.proofs.Common.{refl, sym, ◌∙◌, inl, inr}
use Rattle.cobra.proofs.resuming.hand_offer.Goals as goal

pub returns-then-not-has_form : goal.returns-then-not-has_form
returns-then-not-has_form c = inr (sym c.has_form.ensures ∙ c.if-not-has_form.true, (refl, refl))

pub returns : goal.returns
returns c = inl (sym c.has_form.ensures ∙ c.if-not-has_form.false, c.hand_fragment.ensures)
