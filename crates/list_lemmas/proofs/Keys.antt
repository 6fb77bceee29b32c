-- Numbers as the keys of maps.
use Rattle.std.proofs.Common.{◌≡◌, ℕ, true, cond, nat_eq, refl, ap, ◌∙◌, arith, Some}
use Rattle.std.specs.Ordering.{nat_cmp, is_eq, eq_by_cmp}
use Rattle.std.specs.declared.cmp.Ordering.{Ordering}
use Rattle.std.specs.declared.cmp.Ordering.TheVariants.{Less, Equal, Greater}
use Rattle.std.specs.FinMap as map
use Rattle.std.proofs.lemmas.Bool.Decides.{nat_tests}
use Rattle.std.proofs.lemmas.Cmp.{nat_cmp_total}

pub equal_from_is_eq : (o : Ordering) → is_eq o ≡ true → o ≡ Equal
equal_from_is_eq Less e = cc
equal_from_is_eq Equal e = refl
equal_from_is_eq Greater e = cc

pub ties : (x y : ℕ) → eq_by_cmp nat_cmp x y ≡ nat_eq x y
ties x y = grind (arith, nat_tests)

-- what a map has after an insert, by a test of the keys
pub get_after : {X : Type 0} (m : map.FinMap nat_cmp X) (key : ℕ) (x : X) (q : ℕ) → map.get (map.insert m key x) q ≡ cond (nat_eq q key) (Some x) (map.get m q)
get_after m key x q = map.get-insert nat_cmp_total m key x q ∙ ap (λ b. cond b (Some x) (map.get m q)) (ties q key)
