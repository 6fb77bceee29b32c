-- What is in a list, by cases on the list, and lists that have each element once.
use Rattle.std.proofs.Common.{◌≢◌, ℕ, ◌<◌, ◌⊎◌, List, [], ◌∷◌, ◌++◌, length, get_or, refl, sym, inl, inr, subst, suc, zero, arith}
use Rattle.std.specs.Prelude.{⊤, Contains}
use Rattle.std.specs.List.{AllPairs}
use Rattle.list_lemmas.specs.Members.{In}

-- no element stands twice
abbrev pub AreOnce : {X : Type 0} → List X → Type 0
AreOnce [] = ⊤
AreOnce (x ∷ xs) = (¬ In xs x) × AreOnce xs

pub none_in_none : {X : Type 0} (x : X) → Contains [] x → ⊥
none_in_none x (k, within, is) = absurd (omega arith)

pub in_from_contains : {X : Type 0} (xs : List X) (y : X) → Contains xs y → In xs y
in_from_contains [] y (k, within, is) = absurd (omega arith)
in_from_contains (x ∷ xs) y (zero, within, is) = inl is
in_from_contains (x ∷ xs) y (suc k, within, is) = inr (in_from_contains xs y (k, omega arith, is))

pub contains_from_in : {X : Type 0} (xs : List X) (y : X) → In xs y → Contains xs y
contains_from_in [] y h = absurd h
contains_from_in (x ∷ xs) y (inl e) = (0, omega arith, e)
contains_from_in (x ∷ xs) y (inr h) = let found = contains_from_in xs y h in (suc found.0, omega (arith, found.1), found.2)

pub in_left : {X : Type 0} (xs ys : List X) (y : X) → In xs y → In (xs ++ ys) y
in_left [] ys y h = absurd h
in_left (x ∷ xs) ys y (inl e) = inl e
in_left (x ∷ xs) ys y (inr h) = inr (in_left xs ys y h)

pub in_right : {X : Type 0} (xs ys : List X) (y : X) → In ys y → In (xs ++ ys) y
in_right [] ys y h = h
in_right (x ∷ xs) ys y h = inr (in_right xs ys y h)

pub in_either : {X : Type 0} (xs ys : List X) (y : X) → In (xs ++ ys) y → In xs y ⊎ In ys y
in_either [] ys y h = inr h
in_either (x ∷ xs) ys y (inl e) = inl (inl e)
in_either {X} (x ∷ xs) ys y (inr h) = more (in_either xs ys y h)
  where
    more : In xs y ⊎ In ys y → In (x ∷ xs) y ⊎ In ys y
    more (inl h) = inl (inr h)
    more (inr h) = inr h

-- what is read within a list is in it
pub in_place : {X : Type 0} (xs : List X) (k : ℕ) (d : X) → k < length xs → In xs (get_or xs k d)
in_place [] k d h = absurd (omega arith)
in_place (x ∷ xs) zero d h = inl refl
in_place (x ∷ xs) (suc k) d h = inr (in_place xs k d (omega arith))

-- elements that differ pair by pair, and elements that stand once
pub once_from_pairs : {X : Type 0} (xs : List X) → AllPairs (λ x y. x ≢ y) xs → AreOnce xs
once_from_pairs [] apart = tt
once_from_pairs {X} (x ∷ xs) apart = (λ there. by_place (contains_from_in xs x there), once_from_pairs xs (λ i j d below within. apart (suc i) (suc j) d (omega arith) (omega arith)))
  where
    by_place : Contains xs x → ⊥
    by_place (k, within, is) = apart 0 (suc k) x (omega arith) (omega arith) (sym is)

pub pairs_from_once : {X : Type 0} (xs : List X) → AreOnce xs → AllPairs (λ x y. x ≢ y) xs
pairs_from_once [] once i j d below within = absurd (omega arith)
pairs_from_once (x ∷ xs) once zero zero d below within = absurd (omega arith)
pairs_from_once (x ∷ xs) once zero (suc j) d below within = λ same. once.0 (subst (λ y. In xs y) (sym same) (in_place xs j d (omega arith)))
pairs_from_once (x ∷ xs) once (suc i) zero d below within = absurd (omega arith)
pairs_from_once (x ∷ xs) once (suc i) (suc j) d below within = pairs_from_once xs once.1 i j d (omega arith) (omega arith)
