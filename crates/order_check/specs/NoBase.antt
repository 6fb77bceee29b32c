-- Parts of which nothing is gone.
use Rattle.std.specs.Prelude.{◌≡◌, ℕ}
use Rattle.std.specs.FinMap.{empty}
use Rattle.order_check.specs.declared.remainder.Parts.{Parts}
use Rattle.order_check.specs.Based.{mark_of}

-- nothing is gone: every mark is 0, and no key has a last gone writer
pub record HasNoBase (parts : Parts) : Type 0 where
  pub marks : (s : ℕ) → mark_of parts s ≡ 0
  pub last : parts.base.last ≡ empty
