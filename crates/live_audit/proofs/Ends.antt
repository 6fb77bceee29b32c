-- Which collectors have ended.
use Rattle.std.proofs.Common.{◌≡◌, zero, suc, true, false, [], ◌∷◌}
use Rattle.fragment_intake.specs.declared.rules.Item.TheVariants as item
use Rattle.live_audit.specs.Running.{AreEnded}

false_or_true : false ≡ true → ⊥
false_or_true is = cc

-- none is noted
pub none_ended : AreEnded (false ∷ false ∷ false ∷ false ∷ []) []
none_ended zero is = absurd (false_or_true is)
none_ended (suc zero) is = absurd (false_or_true is)
none_ended (suc (suc zero)) is = absurd (false_or_true is)
none_ended (suc (suc (suc zero))) is = absurd (false_or_true is)
none_ended (suc (suc (suc (suc more)))) is = absurd (false_or_true is)
