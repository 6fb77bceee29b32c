-- Split lists of transactions, and parts of them.
use Rattle.std.proofs.Common.{◌≡◌, ℕ, zero, suc, ◌+◌, ◌*◌, List, [], ◌∷◌, ◌++◌, length, take, drop, refl, sym, ap, ◌∙◌, arith, add-zero}
use Rattle.txn.specs.declared.transactions.Txn.{Txn}
use Rattle.isolation_histories.specs.Split.{begin_txn, commit_txn, split_txns}

pub none_taken : {X : Type 0} (n : ℕ) → take {A = X} n [] ≡ []
none_taken zero = refl
none_taken (suc n) = refl

none_dropped : {X : Type 0} (n : ℕ) → drop {A = X} n [] ≡ []
none_dropped zero = refl
none_dropped (suc n) = refl

pub split_length : (s number : ℕ) (txns : List Txn) → length (split_txns s number txns) ≡ 2 * length txns
split_length s number [] = refl
split_length s number (txn ∷ txns) = omega (arith, split_length s (number + 1) txns)

pub split_take : (s number k : ℕ) (txns : List Txn) → split_txns s number (take k txns) ≡ take (2 * k) (split_txns s number txns)
split_take s number zero txns = refl
split_take s number (suc k) [] = sym (none_taken (2 * suc k))
split_take s number (suc k) (txn ∷ txns) =
    let two : suc (suc (2 * k)) ≡ 2 * suc k = omega arith in
    ap (λ ts. begin_txn txn ∷ commit_txn (record { session = s; number = number }) txn ∷ ts) (split_take s (number + 1) k txns)
    ∙ ap (λ m. take m (begin_txn txn ∷ commit_txn (record { session = s; number = number }) txn ∷ split_txns s (number + 1) txns)) two

pub split_drop : (s number k : ℕ) (txns : List Txn) → drop (2 * k) (split_txns s number txns) ≡ split_txns s (number + k) (drop k txns)
split_drop s number zero txns = rw add-zero refl
split_drop s number (suc k) [] = none_dropped (2 * suc k)
split_drop s number (suc k) (txn ∷ txns) =
    let two : 2 * suc k ≡ suc (suc (2 * k)) = omega arith in
    let moved : number + 1 + k ≡ number + suc k = omega arith in
    ap (λ m. drop m (begin_txn txn ∷ commit_txn (record { session = s; number = number }) txn ∷ split_txns s (number + 1) txns)) two
    ∙ split_drop s (number + 1) k txns
    ∙ ap (λ n. split_txns s n (drop k txns)) moved

pub split_append : (s number : ℕ) (front back : List Txn) → split_txns s number (front ++ back) ≡ split_txns s number front ++ split_txns s (number + length front) back
split_append s number [] back = rw add-zero refl
split_append s number (txn ∷ front) back =
    let moved : number + 1 + length front ≡ number + suc (length front) = omega arith in
    ap (λ txns. begin_txn txn ∷ commit_txn (record { session = s; number = number }) txn ∷ txns) (split_append s (number + 1) front back ∙ ap (λ n. split_txns s (number + 1) front ++ split_txns s n back) moved)

dropped : {X : Type 0} (a b n : ℕ) (xs : List X) → n ≡ a + b → drop a (drop b xs) ≡ drop n xs
dropped a zero n xs is = let same : a ≡ n = omega (arith, is) in ap (λ k. drop k xs) same
dropped a (suc b) zero xs is = absurd (omega (arith, is))
dropped a (suc b) (suc n) [] is = none_dropped a
dropped a (suc b) (suc n) (x ∷ xs) is = dropped a b n xs (omega (arith, is))

pub drop_drop : {X : Type 0} (a b : ℕ) (xs : List X) → drop a (drop b xs) ≡ drop (a + b) xs
drop_drop a b xs = dropped a b (a + b) xs refl
