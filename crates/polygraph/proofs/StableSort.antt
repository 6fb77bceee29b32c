-- A stable sort by numbers leaves as it is each part of a list in which the numbers don't fall.
use Rattle.std.proofs.Common.{◌≡◌, ℕ, suc, ◌<◌, ◌≤◌, Bool, true, false, cond, List, [], ◌∷◌, length, get_or, filter, nat_cmp, is_lt, refl, sym, ap, ◌∙◌, arith, inl, inr}
use Rattle.std.specs.Prelude.{⊤}
use Rattle.std.specs.List.Sorted.{ties, IsNonDecreasingBy, IsStableByKey}
use Rattle.std.proofs.lemmas.Bool.{cond-true, cond-false, cases_Bool}
use Rattle.std.proofs.lemmas.Bool.Decides.{nat_tests}
use Rattle.list_lemmas.proofs.Filters.{filters_swap}

ties_at : (m n : ℕ) → (ties (λ x y. is_lt (nat_cmp x y)) m n ≡ true → m ≡ n) × (m ≡ n → ties (λ x y. is_lt (nat_cmp x y)) m n ≡ true)
ties_at m n = (λ h. grind (arith, nat_tests), λ h. grind (arith, nat_tests))

filter_passes : {X : Type 0} (p : X → Bool) (x : X) (xs : List X) → p x ≡ true → filter p (x ∷ xs) ≡ x ∷ filter p xs
filter_passes p x xs h = cond-true _ _ _ h

filter_fails : {X : Type 0} (p : X → Bool) (x : X) (xs : List X) → p x ≡ false → filter p (x ∷ xs) ≡ filter p xs
filter_fails p x xs h = cond-false _ _ _ h

-- the property holds of each
abbrev pub Each : {X : Type 0} → (X → Type 0) → List X → Type 0
Each P [] = ⊤
Each P (x ∷ xs) = P x × Each P xs

-- the number of none is above that of a later one
abbrev pub Climbs : {X : Type 0} → (X → ℕ) → List X → Type 0
Climbs n [] = ⊤
Climbs n (x ∷ xs) = Each (λ y. n x ≤ n y) xs × Climbs n xs

pub each_filter : {X : Type 0} (P : X → Type 0) (p : X → Bool) (xs : List X) → Each P xs → Each P (filter p xs)
each_filter P p [] h = tt
each_filter {X} P p (x ∷ xs) h = by_test (p x) (each_filter P p xs h.1)
  where
    by_test : (t : Bool) → Each P (filter p xs) → Each P (cond t (x ∷ filter p xs) (filter p xs))
    by_test true rest = (h.0, rest)
    by_test false rest = rest

climbs_filter : {X : Type 0} (n : X → ℕ) (p : X → Bool) (xs : List X) → Climbs n xs → Climbs n (filter p xs)
climbs_filter n p [] h = tt
climbs_filter {X} n p (x ∷ xs) h = by_test (p x) (each_filter (λ y. n x ≤ n y) p xs h.0) (climbs_filter n p xs h.1)
  where
    by_test : (t : Bool) → Each (λ y. n x ≤ n y) (filter p xs) → Climbs n (filter p xs) → Climbs n (cond t (x ∷ filter p xs) (filter p xs))
    by_test true first rest = (first, rest)
    by_test false first rest = rest

pub each_at : {X : Type 0} (P : X → Type 0) (xs : List X) → ((k : ℕ) (d : X) → k < length xs → P (get_or xs k d)) → Each P xs
each_at P [] h = tt
each_at P (x ∷ xs) h = (h 0 x (omega arith), each_at P xs (λ k d within. h (suc k) d (omega arith)))

climbs_from : {X : Type 0} (n : X → ℕ) (xs : List X) → IsNonDecreasingBy n xs → Climbs n xs
climbs_from n [] h = tt
climbs_from n (x ∷ xs) h = (
  each_at (λ y. n x ≤ n y) xs (λ k d within. h 0 (suc k) d (omega arith) (omega arith)),
  climbs_from n xs (λ i j d below within. h (suc i) (suc j) d (omega arith) (omega arith)),
)

module _ {X : Type 0} (n : X → ℕ) where
  -- whether they have the same number
  abbrev same_number : X → X → Bool
  same_number = ties (λ x y. is_lt (nat_cmp (n x) (n y)))

  number_is : (x y : X) → same_number x y ≡ true → n x ≡ n y
  number_is x y = (ties_at (n x) (n y)).0

  same_if : (x y : X) → n x ≡ n y → same_number x y ≡ true
  same_if x y = (ties_at (n x) (n y)).1

  -- where one has the number of x, no lower bound is above it
  bound_of : (low : ℕ) (x : X) (ys : List X) (w : X) (ws : List X) → Each (λ y. low ≤ n y) ys → filter (same_number x) ys ≡ w ∷ ws → low ≤ n x
  bound_of low x [] w ws h e = absurd cc
  bound_of low x (y ∷ ys) w ws h e =
      elim (cases_Bool (same_number x y)) [
        | inl is ↦ omega (arith, h.0, number_is x y is)
        | inr other ↦ bound_of low x ys w ws h.1 (sym (filter_fails (same_number x) y ys other) ∙ e)
      ]

  -- lists that climb are the same where those of each number are
  same_lists : (ys zs : List X) → Climbs n ys → Climbs n zs → ((x : X) → filter (same_number x) ys ≡ filter (same_number x) zs) → ys ≡ zs
  same_lists [] [] left right same = refl
  same_lists [] (z ∷ zs) left right same =
      let clash = same z ∙ filter_passes (same_number z) z zs (same_if z z refl) in absurd cc
  same_lists (y ∷ ys) [] left right same =
      let clash = sym (same y) ∙ filter_passes (same_number y) y ys (same_if y y refl) in absurd cc
  same_lists (y ∷ ys) (z ∷ zs) left right same =
      let at_y = filter_passes (same_number y) y ys (same_if y y refl) in
      let at_z = filter_passes (same_number z) z zs (same_if z z refl) in
      let up = bound_of (n z) y (z ∷ zs) y (filter (same_number y) ys) (omega arith, right.0) (sym (same y) ∙ at_y) in
      let down = bound_of (n y) z (y ∷ ys) z (filter (same_number z) zs) (omega arith, left.0) (same z ∙ at_z) in
      let heads = sym at_y ∙ same y ∙ filter_passes (same_number y) z zs (same_if y z (omega (arith, up, down))) in
      let head : y ≡ z = cc in
      let tails : (x : X) → filter (same_number x) ys ≡ filter (same_number x) zs =
      λ x. elim (cases_Bool (same_number x y)) [
        | inl is ↦
            let both = sym (filter_passes (same_number x) y ys is) ∙ same x ∙ filter_passes (same_number x) z zs (ap (same_number x) (sym head) ∙ is) in cc
        | inr other ↦
            sym (filter_fails (same_number x) y ys other) ∙ same x ∙ filter_fails (same_number x) z zs (ap (same_number x) (sym head) ∙ other)
      ] in
      ap (λ w. w ∷ ys) head ∙ ap (λ l. z ∷ l) (same_lists ys zs left.1 right.1 tails)

-- what passes a test and climbs before the sort stays in its order
pub sort_keeps : {X : Type 0} (n : X → ℕ) (p : X → Bool) (xs ys : List X) → IsNonDecreasingBy n ys → IsStableByKey n nat_cmp xs ys → Climbs n (filter p xs) → filter p ys ≡ filter p xs
sort_keeps n p xs ys sorted stable climbs =
    same_lists n (filter p ys) (filter p xs) (climbs_filter n p ys (climbs_from n ys sorted)) climbs
    (λ x. filters_swap (same_number n x) p ys ∙ ap (filter p) (stable x) ∙ filters_swap p (same_number n x) xs)
