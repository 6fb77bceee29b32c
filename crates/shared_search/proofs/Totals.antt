-- Totals and least values over views, as one view changes.
use Rattle.std.proofs.Common.{◌≡◌, ◌≢◌, ℕ, zero, suc, ◌+◌, ◌<◌, ◌≤◌, refl, sym, ap, List, [], ◌∷◌, ◌++◌, length, set, arith}
use Rattle.std.specs.Prelude.{min}
use Rattle.std.proofs.lemmas.Bool.Decides.{nat_tests}
use mathlib.Core.Option.{some, some-injective, some-ne-none}
use mathlib.Core.Logic.{dite}
use native.Mathlib.Decide.{ℕ_discrete}
use lib.ListN.{get_elem?}
use Rattle.list_lemmas.specs.Counts.{times, total}
use Rattle.list_lemmas.proofs.Counts.{total_at}
use Rattle.shared_search.specs.Counts.{once_below, nothing, lowest, least_of}

-- totals

module _ {V : Type 0} where
  pub total_le : (f g : V → ℕ) (l : List V) → ((i : ℕ) (v : V) → get_elem? l i ≡ some v → f v ≤ g v) → total f l ≤ total g l
  total_le f g [] h = omega arith
  total_le f g (x ∷ xs) h = let here = h 0 x refl in let r = total_le f g xs (λ i v e. h (suc i) v e) in omega arith

  -- where p adds up to nothing, f does, too
  pub total_none : (p f : V → ℕ) (l : List V) → total p l ≡ 0 → ((j : ℕ) (u : V) → get_elem? l j ≡ some u → p u ≡ 0 → f u ≡ 0) → total f l ≡ 0
  total_none p f [] none h = refl
  total_none p f (x ∷ xs) none h =
      let here = h 0 x refl (omega (arith, none)) in
      let r = total_none p f xs (omega (arith, none)) (λ j u e z. h (suc j) u e z) in
      omega arith

  -- where one has all of p, it has all of f
  pub total_only : (p f : V → ℕ) (l : List V) (i : ℕ) (v : V) → get_elem? l i ≡ some v → total p l ≡ p v → ((j : ℕ) (u : V) → get_elem? l j ≡ some u → p u ≡ 0 → f u ≡ 0) → total f l ≡ f v
  total_only p f [] i v e whole h = absurd (some-ne-none v (sym e))
  total_only p f (x ∷ xs) zero v e whole h =
      let is : f x ≡ f v = ap f (some-injective x v e) in
      let is' : p x ≡ p v = ap p (some-injective x v e) in
      let r = total_none p f xs (omega (arith, whole, is')) (λ j u e z. h (suc j) u e z) in
      omega arith
  total_only p f (x ∷ xs) (suc i) v e whole h =
      let at = total_at p xs i v e in
      let here = h 0 x refl (omega (arith, whole, at)) in
      let r = total_only p f xs i v e (omega (arith, whole, at)) (λ j u e z. h (suc j) u e z) in
      omega arith

  -- least values

  pub least_under : (f : V → ℕ) (l : List V) → least_of f l ≤ nothing
  least_under f [] = omega arith
  least_under f (x ∷ xs) = let r = least_under f xs in omega arith

  pub least_at : (f : V → ℕ) (l : List V) (i : ℕ) (v : V) → get_elem? l i ≡ some v → least_of f l ≤ f v
  least_at f [] i v e = absurd (some-ne-none v (sym e))
  least_at f (x ∷ xs) zero v e = let is : f x ≡ f v = ap f (some-injective x v e) in omega arith
  least_at f (x ∷ xs) (suc i) v e = let r = least_at f xs i v e in omega arith

  pub least_set : (f : V → ℕ) (l : List V) (i : ℕ) (v w : V) (c : ℕ) → get_elem? l i ≡ some v → f w ≡ min (f v) c → least_of f (set l i w) ≡ min (least_of f l) c
  least_set f [] i v w c e h = absurd (some-ne-none v (sym e))
  least_set f (x ∷ xs) zero v w c e h = let is : f x ≡ f v = ap f (some-injective x v e) in omega arith
  least_set f (x ∷ xs) (suc i) v w c e h = let r = least_set f xs i v w c e h in omega arith

  pub least_same : (f : V → ℕ) (l : List V) (i : ℕ) (v w : V) → get_elem? l i ≡ some v → f w ≡ f v → least_of f (set l i w) ≡ least_of f l
  least_same f [] i v w e h = absurd (some-ne-none v (sym e))
  least_same f (x ∷ xs) zero v w e h = let is : f x ≡ f v = ap f (some-injective x v e) in omega arith
  least_same f (x ∷ xs) (suc i) v w e h = let r = least_same f xs i v w e h in omega arith

  pub least_snoc : (f : V → ℕ) (l : List V) (w : V) → f w ≡ nothing → least_of f (l ++ w ∷ []) ≡ least_of f l
  least_snoc f [] w h = omega arith
  least_snoc f (x ∷ xs) w h = let r = least_snoc f xs w h in omega arith

  -- the value at i may rise to the top beside a number that is as low
  pub least_over : (f : V → ℕ) (l : List V) (i : ℕ) (v w : V) (m : ℕ) → get_elem? l i ≡ some v → m ≤ f v → f v ≤ nothing → f w ≡ nothing → min m (least_of f (set l i w)) ≡ min m (least_of f l)
  least_over f [] i v w m e low top up = absurd (some-ne-none v (sym e))
  least_over f (x ∷ xs) zero v w m e low top up = let is : f x ≡ f v = ap f (some-injective x v e) in let u = least_under f xs in omega arith
  least_over f (x ∷ xs) (suc i) v w m e low top up = let r = least_over f xs i v w m e low top up in omega arith

  -- the value at i may rise to the top where another is as low
  pub least_up : (f : V → ℕ) (l : List V) (i : ℕ) (v w : V) → get_elem? l i ≡ some v → (j : ℕ) (u : V) → get_elem? l j ≡ some u → j ≢ i → f u ≤ f v → f v ≤ nothing → f w ≡ nothing → least_of f (set l i w) ≡ least_of f l
  least_up f [] i v w e j u e' ne low top up = absurd (some-ne-none v (sym e))
  least_up f (x ∷ xs) zero v w e zero u e' ne low top up = absurd (ne refl)
  least_up f (x ∷ xs) zero v w e (suc j) u e' ne low top up =
      let is : f x ≡ f v = ap f (some-injective x v e) in
      let at = least_at f xs j u e' in
      let under = least_under f xs in
      omega arith
  least_up f (x ∷ xs) (suc i) v w e zero u e' ne low top up =
      let is : f x ≡ f u = ap f (some-injective x u e') in
      let r = least_over f xs i v w (f x) e (omega arith) top up in
      omega arith
  least_up f (x ∷ xs) (suc i) v w e (suc j) u e' ne low top up =
      let r = least_up f xs i v w e j u e' (λ h. ne (ap suc h)) low top up in
      omega arith

  pub least_none : (p f : V → ℕ) (l : List V) → total p l ≡ 0 → ((j : ℕ) (u : V) → get_elem? l j ≡ some u → p u ≡ 0 → f u ≡ nothing) → least_of f l ≡ nothing
  least_none p f [] none h = refl
  least_none p f (x ∷ xs) none h =
      let here = h 0 x refl (omega (arith, none)) in
      let r = least_none p f xs (omega (arith, none)) (λ j u e z. h (suc j) u e z) in
      omega arith

  -- where one has all of p, its value is the least
  pub least_only : (p f : V → ℕ) (l : List V) (i : ℕ) (v : V) → get_elem? l i ≡ some v → f v ≤ nothing → total p l ≡ p v → ((j : ℕ) (u : V) → get_elem? l j ≡ some u → p u ≡ 0 → f u ≡ nothing) → least_of f l ≡ f v
  least_only p f [] i v e top whole h = absurd (some-ne-none v (sym e))
  least_only p f (x ∷ xs) zero v e top whole h =
      let is : f x ≡ f v = ap f (some-injective x v e) in
      let is' : p x ≡ p v = ap p (some-injective x v e) in
      let r = least_none p f xs (omega (arith, whole, is')) (λ j u e z. h (suc j) u e z) in
      omega arith
  least_only p f (x ∷ xs) (suc i) v e top whole h =
      let at = total_at p xs i v e in
      let here = h 0 x refl (omega (arith, whole, at)) in
      let r = least_only p f xs i v e top (omega (arith, whole, at)) (λ j u e z. h (suc j) u e z) in
      let a = least_at f xs i v e in
      omega arith

-- how often a number stands in a list

pub once_more : (x n : ℕ) → once_below x (n + 1) ≡ once_below x n + times x (n ∷ [])
once_more x n = grind (arith, nat_tests)

pub none_below : (x : ℕ) → 0 + 0 ≡ once_below x 0
none_below x = grind (arith, nat_tests)

pub same_time : (x i : ℕ) → x ≡ i → times x (i ∷ []) ≡ 1
same_time x i h = grind (arith, nat_tests)

pub other_time : (x i : ℕ) → x ≢ i → times x (i ∷ []) ≡ 0
other_time x i h = grind (arith, nat_tests)

-- a list that has x is x and the others
pub removed : (x : ℕ) (ys : List ℕ) → 0 < times x ys → (zs : List ℕ) × (length ys ≡ suc (length zs)) × ((y : ℕ) → times y ys ≡ times y (x ∷ zs))
removed x [] h = absurd (omega arith)
removed x (y ∷ ys) h = dite (ℕ_discrete x y)
    (λ same. (ys, refl, λ z. ap (λ (n : ℕ). times z (n ∷ ys)) (sym same)))
    (λ other.
    let o = other_time x y other in
    let r = removed x ys (omega (arith, h, o)) in
    (y ∷ r.0, ap suc r.1, λ z. let e = r.2 z in omega (arith, e)))

-- a list whose numbers all stand as often in another is no longer
pub length_of_counts : (xs ys : List ℕ) → ((x : ℕ) → times x xs ≤ times x ys) → length xs ≤ length ys
length_of_counts [] ys h = omega arith
length_of_counts (x ∷ xs) ys h =
    let s = same_time x x refl in
    let here = h x in
    let r = removed x ys (omega (arith, s, here)) in
    let more = length_of_counts xs r.0 (λ y. let a = h y in let b = r.2 y in omega (arith, a, b)) in
    let l = r.1 in
    omega (arith, more, l)

-- the least number of a list

pub lowest_top : (xs : List ℕ) → lowest xs ≤ nothing
lowest_top [] = omega arith
lowest_top (x ∷ xs) = let r = lowest_top xs in omega arith

pub lowest-append : (xs ys : List ℕ) → lowest (xs ++ ys) ≡ min (lowest xs) (lowest ys)
lowest-append [] ys = let t = lowest_top ys in omega arith
lowest-append (x ∷ xs) ys = let r = lowest-append xs ys in omega arith
