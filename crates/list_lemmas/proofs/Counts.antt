-- Totals over lists, and lists after one element was changed.
use Rattle.std.proofs.Common.{◌≡◌, ◌≢◌, ℕ, ◌+◌, ◌≤◌, List, [], ◌∷◌, ◌++◌, set, refl, sym, ap, subst, suc, zero, arith}
use mathlib.Core.Option.{some, some-injective, some-ne-none}
use lib.ListN.{get_elem?}
use Rattle.list_lemmas.specs.Counts.{times, total}

pub total_set : {V : Type 0} (f : V → ℕ) (l : List V) (i : ℕ) (v w : V) → get_elem? l i ≡ some v → total f (set l i w) + f v ≡ total f l + f w
total_set f [] i v w e = absurd (some-ne-none v (sym e))
total_set f (x ∷ xs) zero v w e = let is : f x ≡ f v = ap f (some-injective x v e) in omega arith
total_set f (x ∷ xs) (suc i) v w e = let r = total_set f xs i v w e in omega arith

pub total_snoc : {V : Type 0} (f : V → ℕ) (l : List V) (w : V) → total f (l ++ w ∷ []) ≡ total f l + f w
total_snoc f [] w = omega arith
total_snoc f (x ∷ xs) w = let r = total_snoc f xs w in omega arith

pub total_at : {V : Type 0} (f : V → ℕ) (l : List V) (i : ℕ) (v : V) → get_elem? l i ≡ some v → f v ≤ total f l
total_at f [] i v e = absurd (some-ne-none v (sym e))
total_at f (x ∷ xs) zero v e = let is : f x ≡ f v = ap f (some-injective x v e) in omega arith
total_at f (x ∷ xs) (suc i) v e = let r = total_at f xs i v e in omega arith

-- two places add up to at most the total
pub total_two : {V : Type 0} (f : V → ℕ) (l : List V) (i j : ℕ) (v u : V) → get_elem? l i ≡ some v → get_elem? l j ≡ some u → j ≢ i → f v + f u ≤ total f l
total_two f [] i j v u e e' other = absurd (some-ne-none v (sym e))
total_two f (x ∷ xs) zero zero v u e e' other = absurd (other refl)
total_two f (x ∷ xs) zero (suc j) v u e e' other = let is : f x ≡ f v = ap f (some-injective x v e) in let t = total_at f xs j u e' in omega arith
total_two f (x ∷ xs) (suc i) zero v u e e' other = let is : f x ≡ f u = ap f (some-injective x u e') in let t = total_at f xs i v e in omega arith
total_two f (x ∷ xs) (suc i) (suc j) v u e e' other = let t = total_two f xs i j v u e e' (λ h. other (ap suc h)) in omega arith

pub times-append : (p : ℕ) (xs ys : List ℕ) → times p (xs ++ ys) ≡ times p xs + times p ys
times-append p [] ys = omega arith
times-append p (x ∷ xs) ys = let e = times-append p xs ys in omega arith

-- what a list of one has
pub only_one : {V : Type 0} (v : V) (i : ℕ) (u : V) → get_elem? (v ∷ []) i ≡ some u → v ≡ u
only_one v zero u e = some-injective v u e
only_one v (suc i) u e = absurd (some-ne-none u (sym e))

-- each element after one was changed
pub all_set : {V : Type 0} (F : V → Type 0) (l : List V) (i : ℕ) (w : V) → F w → ((j : ℕ) (u : V) → j ≢ i → get_elem? l j ≡ some u → F u) → (j : ℕ) (u : V) → get_elem? (set l i w) j ≡ some u → F u
all_set F [] i w mine others j u e = absurd (some-ne-none u (sym e))
all_set F (x ∷ xs) zero w mine others zero u e = subst F (some-injective w u e) mine
all_set F (x ∷ xs) zero w mine others (suc j) u e = others (suc j) u (λ h. omega arith) e
all_set F (x ∷ xs) (suc i) w mine others zero u e = others 0 u (λ h. omega arith) e
all_set F (x ∷ xs) (suc i) w mine others (suc j) u e = all_set F xs i w mine (λ k v other at. others (suc k) v (λ h. other (omega arith)) at) j u e
