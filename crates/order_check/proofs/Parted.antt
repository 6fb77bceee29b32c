-- A list cut at the place in front of which each element passes a test, where no later one does.
use Rattle.std.proofs.Common.{◌≡◌, ℕ, ◌≤◌, Bool, true, false, not, List, [], ◌∷◌, length, take, drop, filter, refl, ap, suc, zero, arith}
use Rattle.std.specs.List.Sorted.{IsPartitionPoint}

none_in_front : {X : Type 0} (p : X → Bool) (x : X) (xs : List X) → IsPartitionPoint (λ y. p y ≡ true) (λ y. p y ≡ false) (x ∷ xs) 0 → IsPartitionPoint (λ y. p y ≡ true) (λ y. p y ≡ false) xs 0
none_in_front p x xs h = ((λ k d from below. absurd (omega arith)), (λ k d from below. h.1 (suc k) d (omega arith) (omega arith)))

one_less : {X : Type 0} (p : X → Bool) (x : X) (xs : List X) (i : ℕ) → IsPartitionPoint (λ y. p y ≡ true) (λ y. p y ≡ false) (x ∷ xs) (suc i) → IsPartitionPoint (λ y. p y ≡ true) (λ y. p y ≡ false) xs i
one_less p x xs i h = ((λ k d from below. h.0 (suc k) d (omega arith) (omega arith)), (λ k d from below. h.1 (suc k) d (omega arith) (omega arith)))

pub take-passing : {X : Type 0} (p : X → Bool) (xs : List X) (i : ℕ) → IsPartitionPoint (λ y. p y ≡ true) (λ y. p y ≡ false) xs i → i ≤ length xs → take i xs ≡ filter p xs
take-passing p [] zero h within = refl
take-passing p [] (suc i) h within = absurd (omega arith)
take-passing p (x ∷ xs) zero h within =
    let fails : p x ≡ false = h.1 0 x (omega arith) (omega arith) in
    rw fails (take-passing p xs 0 (none_in_front p x xs h) (omega arith))
take-passing p (x ∷ xs) (suc i) h within =
    let passes : p x ≡ true = h.0 0 x (omega arith) (omega arith) in
    rw passes (ap (λ ys. x ∷ ys) (take-passing p xs i (one_less p x xs i h) (omega arith)))

pub drop-passing : {X : Type 0} (p : X → Bool) (xs : List X) (i : ℕ) → IsPartitionPoint (λ y. p y ≡ true) (λ y. p y ≡ false) xs i → drop i xs ≡ filter (λ x. not (p x)) xs
drop-passing p [] zero h = refl
drop-passing p [] (suc i) h = refl
drop-passing p (x ∷ xs) zero h =
    let fails : p x ≡ false = h.1 0 x (omega arith) (omega arith) in
    rw fails (ap (λ ys. x ∷ ys) (drop-passing p xs 0 (none_in_front p x xs h)))
drop-passing p (x ∷ xs) (suc i) h =
    let passes : p x ≡ true = h.0 0 x (omega arith) (omega arith) in
    rw passes (drop-passing p xs i (one_less p x xs i h))
