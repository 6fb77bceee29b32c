use Rattle.std.proofs.Common.{inr, refl, sym, ◌∙◌, true, ◌≡◌}
use Rattle.std.proofs.lemmas.Bool.{false≢true}
use Rattle.fence_chain.proofs.fences.push_fence.Goals as goal

pub returns-then-not-is_remaining_fence : goal.returns-then-not-is_remaining_fence
returns-then-not-is_remaining_fence c = inr ((λ h. let t : c.is_remaining_fence.result ≡ true = c.is_remaining_fence.ensures.1 h in absurd (false≢true (sym c.if-not-is_remaining_fence.true ∙ t))), refl)
