use Rattle.std.proofs.Common.{All, sym, subst, arith}
use Rattle.isolation_histories.specs.Splittable.{HasLowNumbers}
use Rattle.isolation_histories.proofs.splittable.has_room_to_split.Goals as goal

pub returns-then-end-le-NUMBERS : goal.returns-then-end-le-NUMBERS
returns-then-end-le-NUMBERS c = (
  λ low. record {
    numbers = omega (arith, c.len-count.ensures, c.in-Some.ensures.1, c.if-end-le-NUMBERS.true);
    each = subst (All HasLowNumbers) c.as_slice.ensures (c.have_low_numbers.ensures.0 low);
  },
  λ h. c.have_low_numbers.ensures.1 (subst (All HasLowNumbers) (sym c.as_slice.ensures) h.each),
)
