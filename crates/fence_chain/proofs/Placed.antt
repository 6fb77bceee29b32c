-- A list where each element has a relation to those behind it, and an element put into it.
use Rattle.std.proofs.Common.{◌≡◌, ℕ, ◌+◌, ◌-◌, ◌<◌, ◌≤◌, ◌⊎◌, List, ◌∷◌, length, get_or, suc, zero, sym, ap, ◌∙◌, inl, inr, subst, arith}
use Rattle.std.specs.Prelude.{Contains}
use Rattle.std.specs.List.{AllPairs, insert}
use Rattle.std.proofs.lemmas.Bool.{cases_lt}
use Rattle.std.proofs.lemmas.List.Edits.{length-insert, get_or-insert_below, get_or-insert_at, get_or-insert_above}
use Rattle.std.proofs.lemmas.List.Sorted.{IsPermutation-insert, IsPermutation-sym, Contains-permutation}

-- a place is ahead of this one, is it, or is one further than a place from it on
abbrev Placed : ℕ → ℕ → Type 0
Placed i k = (k < i) ⊎ ((k ≡ i) ⊎ ((j : ℕ) × (k ≡ j + 1) × (i ≤ j)))

placed : (i k : ℕ) → Placed i k
placed i k = by_order (cases_lt k i) (cases_lt i k)
  where
    by_order : (k < i) ⊎ (i ≤ k) → (i < k) ⊎ (k ≤ i) → Placed i k
    by_order (inl below) other = inl below
    by_order (inr past) (inr same) = inr (inl (omega arith))
    by_order (inr past) (inl above) = inr (inr (k - 1, omega arith, omega arith))

-- put behind those that have the relation to it, and ahead of those that it has the relation to
pub insert_keeps : {X : Type 0} (R : X → X → Type 0) (xs : List X) (i : ℕ) (y : X) → i ≤ length xs → AllPairs R xs → ((k : ℕ) (d : X) → k < i → R (get_or xs k d) y) → ((k : ℕ) (d : X) → i ≤ k → k < length xs → R y (get_or xs k d)) → AllPairs R (insert xs i y)
insert_keeps {X} R xs i y within order before after a b d first last = by_places (placed i a) (placed i b)
  where
    new : ℕ → X
    new k = get_or (insert xs i y) k d

    long : length (insert xs i y) ≡ length xs + 1
    long = length-insert xs i y within

    joined : (u v : X) → get_or (insert xs i y) a d ≡ u → get_or (insert xs i y) b d ≡ v → R u v → R (get_or (insert xs i y) a d) (get_or (insert xs i y) b d)
    joined u v eu ev r = subst (λ w. R w (get_or (insert xs i y) b d)) (sym eu) (subst (λ w. R u w) (sym ev) r)

    below : (k : ℕ) → k < i → get_or (insert xs i y) k d ≡ get_or xs k d
    below k h = get_or-insert_below xs i y d k h within

    here : (k : ℕ) → k ≡ i → get_or (insert xs i y) k d ≡ y
    here k e = ap (λ n. get_or (insert xs i y) n d) e ∙ get_or-insert_at xs i y d within

    above : (k j : ℕ) → k ≡ j + 1 → i ≤ j → get_or (insert xs i y) k d ≡ get_or xs j d
    above k j e low = ap (λ n. get_or (insert xs i y) n d) e ∙ get_or-insert_above xs i y d j low within

    by_places : Placed i a → Placed i b → R (get_or (insert xs i y) a d) (get_or (insert xs i y) b d)
    by_places (inl la) (inl lb) = joined (get_or xs a d) (get_or xs b d) (below a la) (below b lb) (order a b d first (omega arith))
    by_places (inl la) (inr (inl eb)) = joined (get_or xs a d) y (below a la) (here b eb) (before a d la)
    by_places (inl la) (inr (inr (j, eb, low))) = joined (get_or xs a d) (get_or xs j d) (below a la) (above b j eb low) (order a j d (omega arith) (omega (arith, long)))
    by_places (inr (inl ea)) (inl lb) = absurd (omega arith)
    by_places (inr (inl ea)) (inr (inl eb)) = absurd (omega arith)
    by_places (inr (inl ea)) (inr (inr (j, eb, low))) = joined y (get_or xs j d) (here a ea) (above b j eb low) (after j d low (omega (arith, long)))
    by_places (inr (inr (n, ea, lowa))) (inl lb) = absurd (omega arith)
    by_places (inr (inr (n, ea, lowa))) (inr (inl eb)) = absurd (omega arith)
    by_places (inr (inr (n, ea, lowa))) (inr (inr (j, eb, low))) = joined (get_or xs n d) (get_or xs j d) (above a n ea lowa) (above b j eb low) (order n j d (omega arith) (omega (arith, long)))

cons_cases : {X : Type 0} (xs : List X) (y x : X) → Contains (y ∷ xs) x → Contains xs x ⊎ (y ≡ x)
cons_cases xs y x (zero, within, is) = inr is
cons_cases xs y x (suc k, within, is) = inl (k, omega arith, is)

cons_there : {X : Type 0} (xs : List X) (y x : X) → Contains xs x ⊎ (y ≡ x) → Contains (y ∷ xs) x
cons_there xs y x (inl (k, within, is)) = (suc k, omega arith, is)
cons_there xs y x (inr e) = (0, omega arith, e)

-- it is in the list, with what was there
pub insert_has : {X : Type 0} (xs : List X) (i : ℕ) (y x : X) → Contains (insert xs i y) x → Contains xs x ⊎ (y ≡ x)
insert_has xs i y x h = cons_cases xs y x (Contains-permutation (insert xs i y) (y ∷ xs) x (IsPermutation-sym (y ∷ xs) (insert xs i y) (IsPermutation-insert xs i y)) h)

pub has_insert : {X : Type 0} (xs : List X) (i : ℕ) (y x : X) → Contains xs x ⊎ (y ≡ x) → Contains (insert xs i y) x
has_insert xs i y x h = Contains-permutation (y ∷ xs) (insert xs i y) x (IsPermutation-insert xs i y) (cons_there xs y x h)
