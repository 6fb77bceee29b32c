-- Places in lists: what stands before what.
use Rattle.std.proofs.Common.{◌≡◌, ℕ, ◌+◌, ◌<◌, ◌⊎◌, Bool, true, false, cond, List, [], ◌∷◌, ◌++◌, length, Some, refl, sym, ◌∙◌, inl, inr, arith, suc, zero, ap, zero-add, suc-add}
use Rattle.std.specs.List.{slice_get, filter}
use Rattle.std.specs.Option.{is_some}
use Rattle.std.proofs.lemmas.Bool.{false≢true}
use Rattle.std.proofs.lemmas.Option.{slice_get_cases}
use Rattle.list_lemmas.specs.Precedes.{Precedes}

-- something stands at a place of the list
abbrev pub IsAt : {X : Type 0} → List X → X → Type 0
IsAt xs a = (i : ℕ) × (slice_get xs i ≡ Some a)

pub later_place : {X : Type 0} (x : X) (xs : List X) (a b : X) → Precedes xs a b → Precedes (x ∷ xs) a b
later_place x xs a b (i, j, below, here, there) = (suc i, suc j, omega arith, here, there)

-- what a filter keeps stands in the list
pub filtered_at : {X : Type 0} (p : X → Bool) (xs : List X) (a : X) → IsAt (filter p xs) a → IsAt xs a
filtered_at p [] a h = h
filtered_at {X} p (x ∷ xs) a h = by_test (p x) (filtered_at p xs a) h
  where
    more : IsAt xs a → IsAt (x ∷ xs) a
    more (i, here) = (suc i, here)

    by_test : (t : Bool) → (IsAt (filter p xs) a → IsAt xs a) → IsAt (cond t (x ∷ filter p xs) (filter p xs)) a → IsAt (x ∷ xs) a
    by_test true rest (zero, here) = (0, here)
    by_test true rest (suc i, here) = more (rest (i, here))
    by_test false rest at = more (rest at)

-- a filter keeps what stands before what
pub precedes_filtered : {X : Type 0} (p : X → Bool) (xs : List X) (a b : X) → Precedes (filter p xs) a b → Precedes xs a b
precedes_filtered p [] a b h = h
precedes_filtered {X} p (x ∷ xs) a b h = by_test (p x) (precedes_filtered p xs a b) h
  where
    first : (Some x ≡ Some a) → IsAt xs b → Precedes (x ∷ xs) a b
    first here (j, there) = (0, suc j, omega arith, here, there)

    by_test : (t : Bool) → (Precedes (filter p xs) a b → Precedes xs a b) → Precedes (cond t (x ∷ filter p xs) (filter p xs)) a b → Precedes (x ∷ xs) a b
    by_test true rest (zero, zero, below, here, there) = absurd (omega arith)
    by_test true rest (zero, suc j, below, here, there) = first here (filtered_at p xs b (j, there))
    by_test true rest (suc i, zero, below, here, there) = absurd (omega arith)
    by_test true rest (suc i, suc j, below, here, there) = later_place x xs a b (rest (i, j, omega arith, here, there))
    by_test false rest h = later_place x xs a b (rest h)

-- what stands in the list and passes stands in the filter
pub at_filter : {X : Type 0} (p : X → Bool) (xs : List X) (a : X) → p a ≡ true → IsAt xs a → IsAt (filter p xs) a
at_filter p [] a pass h = h
at_filter {X} p (x ∷ xs) a pass (zero, here) = by_test (p x) refl
  where
    by_test : (t : Bool) → p x ≡ t → IsAt (cond t (x ∷ filter p xs) (filter p xs)) a
    by_test true e = (0, here)
    by_test false e = let same : x ≡ a = cc in absurd (false≢true (sym e ∙ ap p same ∙ pass))
at_filter {X} p (x ∷ xs) a pass (suc i, here) = more (p x) (at_filter p xs a pass (i, here))
  where
    more : (t : Bool) → IsAt (filter p xs) a → IsAt (cond t (x ∷ filter p xs) (filter p xs)) a
    more true (i, here) = (suc i, here)
    more false at = at

-- what stands before another in the list stands before it in a filter that both pass
pub precedes_filter : {X : Type 0} (p : X → Bool) (xs : List X) (a b : X) → p a ≡ true → p b ≡ true → Precedes xs a b → Precedes (filter p xs) a b
precedes_filter p [] a b pa pb h = h
precedes_filter p (x ∷ xs) a b pa pb (zero, zero, below, here, there) = absurd (omega arith)
precedes_filter {X} p (x ∷ xs) a b pa pb (zero, suc j, below, here, there) = by_test (p x) refl (at_filter p xs b pb (j, there))
  where
    by_test : (t : Bool) → p x ≡ t → IsAt (filter p xs) b → Precedes (cond t (x ∷ filter p xs) (filter p xs)) a b
    by_test true e (j, there) = (0, suc j, omega arith, here, there)
    by_test false e at = let same : x ≡ a = cc in absurd (false≢true (sym e ∙ ap p same ∙ pa))
precedes_filter p (x ∷ xs) a b pa pb (suc i, zero, below, here, there) = absurd (omega arith)
precedes_filter {X} p (x ∷ xs) a b pa pb (suc i, suc j, below, here, there) = by_test (p x) (precedes_filter p xs a b pa pb (i, j, omega arith, here, there))
  where
    by_test : (t : Bool) → Precedes (filter p xs) a b → Precedes (cond t (x ∷ filter p xs) (filter p xs)) a b
    by_test true h = later_place x (filter p xs) a b h
    by_test false h = h

-- where a list is split in two, a place of the whole is a place of one of the two
pub place_in : {X : Type 0} (xs ys : List X) (i : ℕ) (a : X) → slice_get (xs ++ ys) i ≡ Some a → (slice_get xs i ≡ Some a) ⊎ ((k : ℕ) × (i ≡ length xs + k) × (slice_get ys k ≡ Some a))
place_in [] ys i a h = inr (i, omega arith, h)
place_in (x ∷ xs) ys zero a h = inl h
place_in {X} (x ∷ xs) ys (suc i) a h = more (place_in xs ys i a h)
  where
    more : (slice_get xs i ≡ Some a) ⊎ ((k : ℕ) × (i ≡ length xs + k) × (slice_get ys k ≡ Some a)) → (slice_get xs i ≡ Some a) ⊎ ((k : ℕ) × (suc i ≡ suc (length xs) + k) × (slice_get ys k ≡ Some a))
    more (inl e) = inl e
    more (inr (k, e, f)) = inr (k, omega arith, f)

-- and the other way round
pub place_left : {X : Type 0} (xs ys : List X) (i : ℕ) (a : X) → slice_get xs i ≡ Some a → slice_get (xs ++ ys) i ≡ Some a
place_left [] ys i a h = absurd cc
place_left (x ∷ xs) ys zero a h = h
place_left (x ∷ xs) ys (suc i) a h = place_left xs ys i a h

pub place_right : {X : Type 0} (xs ys : List X) (k : ℕ) (a : X) → slice_get ys k ≡ Some a → slice_get (xs ++ ys) (length xs + k) ≡ Some a
place_right [] ys k a h = rw zero-add h
place_right (x ∷ xs) ys k a h = rw suc-add (place_right xs ys k a h)

-- around a place
pub split_at : {X : Type 0} (xs : List X) (i : ℕ) (a : X) → slice_get xs i ≡ Some a → (front back : List X) × (xs ≡ front ++ a ∷ back) × (length front ≡ i)
split_at [] i a h = absurd cc
split_at (x ∷ xs) zero a h = ([], xs, (let e : x ≡ a = cc in ap (λ y. y ∷ xs) e), refl)
split_at {X} (x ∷ xs) (suc i) a h = more (split_at xs i a h)
  where
    more : (front back : List X) × (xs ≡ front ++ a ∷ back) × (length front ≡ i) → (front back : List X) × (x ∷ xs ≡ front ++ a ∷ back) × (length front ≡ suc i)
    more (front, back, e, n) = (x ∷ front, back, ap (λ ys. x ∷ ys) e, ap suc n)

-- where something stands is inside the list
pub some_within : {X : Type 0} (xs : List X) (i : ℕ) → is_some (slice_get xs i) ≡ true → i < length xs
some_within xs i some = elim (slice_get_cases xs i).1 as (λ _. i < length xs) [ inl w ↦ w.1 | inr w ↦ let none = w.1 in cc ]

pub within_some : {X : Type 0} (xs : List X) (i : ℕ) → i < length xs → is_some (slice_get xs i) ≡ true
within_some xs i within = elim (slice_get_cases xs i).1 as (λ _. is_some (slice_get xs i) ≡ true) [ inl w ↦ ap is_some w.2 | inr w ↦ absurd (omega arith) ]
