-- What is in a filter of a list, and two tests one after the other.
use Rattle.std.proofs.Common.{◌≡◌, Bool, true, false, cond, List, [], ◌∷◌, refl, sym, ap, ◌∙◌, suc, zero, arith}
use Rattle.std.specs.Prelude.{Contains, filter}

pub contains_filter : {X : Type 0} (p : X → Bool) (xs : List X) (x : X) → Contains xs x → p x ≡ true → Contains (filter p xs) x
contains_filter p [] x (k, within, is) passes = absurd (omega arith)
contains_filter p (y ∷ xs) x (zero, within, is) passes = rw (ap p is ∙ passes) (0, omega arith, is)
contains_filter {X} p (y ∷ xs) x (suc k, within, is) passes = by_test (p y) (contains_filter p xs x (k, omega arith, is) passes)
  where
    by_test : (b : Bool) → Contains (filter p xs) x → Contains (cond b (y ∷ filter p xs) (filter p xs)) x
    by_test true later = (suc later.0, omega (arith, later.1), later.2)
    by_test false later = later

pub filter_contains : {X : Type 0} (p : X → Bool) (xs : List X) (x : X) → Contains (filter p xs) x → Contains xs x × (p x ≡ true)
filter_contains p [] x there = absurd (omega (arith, there.1))
filter_contains {X} p (y ∷ xs) x there = by_test (p y) refl (filter_contains p xs x) there
  where
    more : Contains xs x × (p x ≡ true) → Contains (y ∷ xs) x × (p x ≡ true)
    more later = ((suc later.0.0, omega (arith, later.0.1), later.0.2), later.1)

    by_test : (b : Bool) → p y ≡ b → (Contains (filter p xs) x → Contains xs x × (p x ≡ true)) → Contains (cond b (y ∷ filter p xs) (filter p xs)) x → Contains (y ∷ xs) x × (p x ≡ true)
    by_test true passes later (zero, within, is) = ((0, omega arith, is), sym (ap p is) ∙ passes)
    by_test true passes later (suc k, within, is) = more (later (k, omega arith, is))
    by_test false fails later there = more (later there)

pub filters_swap : {X : Type 0} (p q : X → Bool) (xs : List X) → filter p (filter q xs) ≡ filter q (filter p xs)
filters_swap p q [] = refl
filters_swap {X} p q (x ∷ xs) = by_tests (p x) (q x) refl refl (filters_swap p q xs)
  where
    by_tests : (t u : Bool) → p x ≡ t → q x ≡ u → filter p (filter q xs) ≡ filter q (filter p xs) → filter p (cond u (x ∷ filter q xs) (filter q xs)) ≡ filter q (cond t (x ∷ filter p xs) (filter p xs))
    by_tests true true passes also rest = rw (passes, also) (ap (λ ys. x ∷ ys) rest)
    by_tests true false passes not rest = rw not rest
    by_tests false true fails passes rest = rw fails rest
    by_tests false false fails also rest = rest
