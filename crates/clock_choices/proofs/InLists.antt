-- What is in a list, and what holds of each item and each behind it, by cases on the list.
use Rattle.std.proofs.Common.{◌≡◌, ◌⊎◌, ◌<◌, ℕ, zero, suc, List, [], ◌∷◌, ◌++◌, length, get_or, refl, subst, inl, inr, arith, Contains}
use Rattle.std.specs.List.{AllPairs}
use Rattle.std.specs.Prelude.{⊤}

-- the list has it, by cases on the list
abbrev pub In : {X : Type 0} → List X → X → Type 0
In [] y = ⊥
In (x ∷ xs) y = (x ≡ y) ⊎ In xs y

pub in_from_contains : {X : Type 0} (xs : List X) (y : X) → Contains xs y → In xs y
in_from_contains [] y there = absurd (omega (arith, there.1))
in_from_contains (x ∷ xs) y (zero, within, is) = inl is
in_from_contains (x ∷ xs) y (suc k, within, is) = inr (in_from_contains xs y (k, omega arith, is))

pub contains_from_in : {X : Type 0} (xs : List X) (y : X) → In xs y → Contains xs y
contains_from_in [] y there = absurd there
contains_from_in (x ∷ xs) y (inl is) = (0, omega arith, is)
contains_from_in (x ∷ xs) y (inr there) = let found = contains_from_in xs y there in (suc found.0, omega (arith, found.1), found.2)

pub in_either : {X : Type 0} (xs ys : List X) (y : X) → In (xs ++ ys) y → In xs y ⊎ In ys y
in_either [] ys y there = inr there
in_either (x ∷ xs) ys y (inl is) = inl (inl is)
in_either (x ∷ xs) ys y (inr there) = elim (in_either xs ys y there) [ inl one ↦ inl (inr one) | inr other ↦ inr other ]

pub in_left : {X : Type 0} (xs ys : List X) (y : X) → In xs y → In (xs ++ ys) y
in_left [] ys y there = absurd there
in_left (x ∷ xs) ys y (inl is) = inl is
in_left (x ∷ xs) ys y (inr there) = inr (in_left xs ys y there)

pub in_right : {X : Type 0} (xs ys : List X) (y : X) → In ys y → In (xs ++ ys) y
in_right [] ys y there = there
in_right (x ∷ xs) ys y there = inr (in_right xs ys y there)

pub in_place : {X : Type 0} (xs : List X) (k : ℕ) (d : X) → k < length xs → In xs (get_or xs k d)
in_place [] k d within = absurd (omega arith)
in_place (x ∷ xs) zero d within = inl refl
in_place (x ∷ xs) (suc k) d within = inr (in_place xs k d (omega arith))

-- so of each item and each behind it
abbrev pub Pairs : {X : Type 0} → (X → X → Type 0) → List X → Type 0
Pairs R [] = ⊤
Pairs {X} R (x ∷ xs) = ((y : X) → In xs y → R x y) × Pairs R xs

pub pairs_of : {X : Type 0} (R : X → X → Type 0) (xs : List X) → AllPairs R xs → Pairs R xs
pairs_of R [] pairs = tt
pairs_of {X} R (x ∷ xs) pairs = (
  λ y there. let (k, within, is) = contains_from_in xs y there in subst (λ (z : X). R x z) is (pairs 0 (suc k) y (omega arith) (omega (arith, within))),
  pairs_of R xs (λ i j d less within. pairs (suc i) (suc j) d (omega arith) (omega (arith, within))),
)

pub pairs_to : {X : Type 0} (R : X → X → Type 0) (xs : List X) → Pairs R xs → AllPairs R xs
pairs_to R [] pairs i j d less within = absurd (omega arith)
pairs_to R (x ∷ xs) pairs zero zero d less within = absurd (omega arith)
pairs_to R (x ∷ xs) pairs zero (suc j) d less within = pairs.0 (get_or xs j d) (in_place xs j d (omega arith))
pairs_to R (x ∷ xs) pairs (suc i) zero d less within = absurd (omega arith)
pairs_to R (x ∷ xs) pairs (suc i) (suc j) d less within = pairs_to R xs pairs.1 i j d (omega arith) (omega arith)

pub pairs_append : {X : Type 0} (R : X → X → Type 0) (xs ys : List X) → Pairs R xs → Pairs R ys → ((x y : X) → In xs x → In ys y → R x y) → Pairs R (xs ++ ys)
pairs_append R [] ys first second across = second
pairs_append R (x ∷ xs) ys first second across = (
  λ y there. elim (in_either xs ys y there) [ inl one ↦ first.0 y one | inr other ↦ across x y (inl refl) other ],
  pairs_append R xs ys first.1 second (λ z y one other. across z y (inr one) other),
)
