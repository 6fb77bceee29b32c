-- An engine that has parts and nothing else stands for each whole history that the parts stand for.
use Rattle.std.proofs.Common.{◌≡◌, refl}
use Rattle.std.specs.Prelude as prelude
use Rattle.order_check.specs.declared.remainder.Parts.{Parts}
use Rattle.cobra.specs.Scripts.{HoldsAll}

pub holds_all : (parts : Parts) → HoldsAll parts
holds_all parts whole stands = record {
  same = refl;
  parts = stands;
  asked = λ other is. let no : prelude.None ≡ prelude.Some other = is in cc;
}
