-- A search among numbers that climb, by halves.
use Rattle.std.proofs.Common.{◌≡◌, ℕ, ◌+◌, ◌-◌, ◌^◌, ◌<◌, ◌≤◌, List, get_or, ap, arith}
use Rattle.std.proofs.lemmas.Nat.{pow-add}
use Rattle.clock_choices.specs.Runs.{Climbs, IsBetween}
use Rattle.clock_choices.proofs.Numbers.{climbs_or}

-- a power of two is twice the one below it
pub pow_two : (k n : ℕ) → n ≡ k + 1 → 2 ^ n ≡ 2 ^ k + 2 ^ k
pow_two k n is =
    let same = ap (λ (m : ℕ). 2 ^ m) is in
    let twice = pow-add 2 k 1 in
    omega (arith, same, twice)

module _ (numbers : List ℕ) (bound : ℕ) (climbs : Climbs numbers) where
  -- the middle number is below
  pub half_taken : (low step more : ℕ) → more ≡ step + step → 0 < step → IsBetween numbers bound low more → get_or numbers (low + step - 1) 0 < bound → IsBetween numbers bound (low + step) step
  half_taken low step more two some is below = record {
    within = let w = is.within in omega (arith, w, two);
    low = λ k front.
        let w = is.within in
        let less = climbs_or numbers k (low + step - 1) climbs (omega arith) (omega (arith, w, two)) in
        omega (arith, less, below);
    high = λ k behind within. is.high k (omega (arith, behind, two)) within;
  }

  -- it isn't
  pub half_passed : (low step more : ℕ) → more ≡ step + step → 0 < step → IsBetween numbers bound low more → bound ≤ get_or numbers (low + step - 1) 0 → IsBetween numbers bound low step
  half_passed low step more two some is high = record {
    within = let w = is.within in omega (arith, w, two);
    low = is.low;
    high = λ k behind within.
        let less = climbs_or numbers (low + step - 1) k climbs (omega arith) within in
        omega (arith, less, high);
  }
