-- Lists with one more element at their end, and fronts of lists.
use Rattle.std.proofs.Common.{◌≡◌, ◌≢◌, ℕ, ◌≤◌, List, [], ◌∷◌, ◌++◌, length, take, reverse, ap, suc, zero, arith}
use Rattle.std.proofs.lemmas.List.{reverse-append, length_push}

pub reverse_push : {X : Type 0} (xs : List X) (x : X) → reverse (xs ++ x ∷ []) ≡ x ∷ reverse xs
reverse_push xs x = reverse-append xs (x ∷ [])

pub push_not_nil : {X : Type 0} (xs : List X) (x : X) → xs ++ x ∷ [] ≢ []
push_not_nil xs x is = omega (arith, ap length is, length_push xs x)

pub length_taken : {X : Type 0} (n : ℕ) (xs : List X) → length (take n xs) ≤ length xs
length_taken zero xs = omega arith
length_taken (suc n) [] = omega arith
length_taken (suc n) (x ∷ xs) = let rest = length_taken n xs in omega arith
