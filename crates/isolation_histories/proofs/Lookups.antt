-- What stands where in a split history.
use Rattle.std.proofs.Common.{◌≡◌, ℕ, ◌+◌, ◌-◌, ◌*◌, ◌<◌, ◌^◌, ◌⊎◌, nat_lt, true, false, cond, ◌||◌, List, [], ◌∷◌, Some, None, Option, refl, sym, ap, subst, ◌∙◌, inl, inr, arith, suc, zero, add-zero}
use Rattle.std.specs.Prelude.{map, nat_eq, option_map}
use Rattle.std.specs.List.{slice_get, list_any}
use Rattle.std.proofs.lemmas.Bool.{le-ltb}
use Rattle.std.proofs.lemmas.Bool.Decides.{eqb_tells}
use Rattle.txn.specs.declared.transactions.TxnId.{TxnId}
use Rattle.txn.specs.declared.transactions.Txn.{Txn}
use Rattle.txn.specs.History.{History, session_of, txn_at, writes_key}
use Rattle.isolation_histories.specs.Halves.{begin_half, commit_half}
use Rattle.isolation_histories.specs.Split.{star, plain_key, begin_txn, commit_txn, split_txns, split_sessions, split_history}

session_from : (m : ℕ) (history : History) (s : ℕ) → session_of (split_sessions m history) s ≡ split_txns (m + s) 0 (session_of history s)
session_from m [] s = refl
session_from m (txns ∷ history) zero = rw add-zero refl
session_from m (txns ∷ history) (suc s) = let moved : m + 1 + s ≡ m + suc s = omega arith in rw (← moved) (session_from (m + 1) history s)

-- a session of a split history is the session split
pub session_split : (history : History) (s : ℕ) → session_of (split_history history) s ≡ split_txns s 0 (session_of history s)
session_split history s = let n : 0 + s ≡ s = omega arith in session_from 0 history s ∙ ap (λ k. split_txns k 0 (session_of history s)) n

first_half : (s number : ℕ) (txns : List Txn) (k : ℕ) → slice_get (split_txns s number txns) (2 * k) ≡ option_map begin_txn (slice_get txns k)
first_half s number [] k = refl
first_half s number (txn ∷ txns) zero = refl
first_half s number (txn ∷ txns) (suc k) = let e : 2 * suc k ≡ suc (suc (2 * k)) = omega arith in rw e (first_half s (number + 1) txns k)

second_half : (s number : ℕ) (txns : List Txn) (k : ℕ) → slice_get (split_txns s number txns) (2 * k + 1) ≡ option_map (commit_txn (record { session = s; number = number + k })) (slice_get txns k)
second_half s number [] k = refl
second_half s number (txn ∷ txns) zero = rw add-zero refl
second_half s number (txn ∷ txns) (suc k) =
    let e : 2 * suc k + 1 ≡ suc (suc (2 * k + 1)) = omega arith in
    let moved : number + 1 + k ≡ number + suc k = omega arith in
    rw (e, ← moved) (second_half s (number + 1) txns k)

-- what stands for a begin
pub at_begin : (history : History) (id : TxnId) → txn_at (split_history history) (begin_half id) ≡ option_map begin_txn (txn_at history id)
at_begin history id = ap (λ xs. slice_get xs (2 * id.number)) (session_split history id.session) ∙ first_half id.session 0 (session_of history id.session) id.number

-- what stands for a commit
pub at_commit : (history : History) (id : TxnId) → txn_at (split_history history) (commit_half id) ≡ option_map (commit_txn id) (txn_at history id)
at_commit history id =
    let n : 0 + id.number ≡ id.number = omega arith in
    ap (λ xs. slice_get xs (2 * id.number + 1)) (session_split history id.session)
    ∙ second_half id.session 0 (session_of history id.session) id.number
    ∙ ap (λ n. option_map (commit_txn (record { session = id.session; number = n })) (slice_get (session_of history id.session) id.number)) n

-- two keys with one star are one
pub star_of_one : (a b : ℕ) → star a ≡ star b → a ≡ b
star_of_one a b h = by_zero (eqb_tells a 0) (eqb_tells b 0)
  where
    plain : (k : ℕ) → nat_eq k 0 ≡ true → star k ≡ 0
    plain k e = ap (λ t. cond t 0 (k + 2 ^ 63)) e

    high : (k : ℕ) → nat_eq k 0 ≡ false → star k ≡ k + 2 ^ 63
    high k e = ap (λ t. cond t 0 (k + 2 ^ 63)) e

    by_zero : ((nat_eq a 0 ≡ true) × (a ≡ 0)) ⊎ ((nat_eq a 0 ≡ false) × (a ≡ 0 → ⊥)) → ((nat_eq b 0 ≡ true) × (b ≡ 0)) ⊎ ((nat_eq b 0 ≡ false) × (b ≡ 0 → ⊥)) → a ≡ b
    by_zero (inl x) (inl y) = x.1 ∙ sym y.1
    by_zero (inl x) (inr y) = let p = plain a x.0 in let q = high b y.0 in absurd (omega (arith, p, q, h))
    by_zero (inr x) (inl y) = let p = high a x.0 in let q = plain b y.0 in absurd (omega (arith, p, q, h))
    by_zero (inr x) (inr y) = let p = high a x.0 in let q = high b y.0 in omega (arith, p, q, h)

-- the key of a star is the one that it is made of
pub key_of_star : (k : ℕ) → k < 2 ^ 63 → plain_key (star k) ≡ k
key_of_star k low = by_zero (eqb_tells k 0)
  where
    by_zero : ((nat_eq k 0 ≡ true) × (k ≡ 0)) ⊎ ((nat_eq k 0 ≡ false) × (k ≡ 0 → ⊥)) → plain_key (star k) ≡ k
    by_zero (inl x) = ap plain_key (ap (λ t. cond t 0 (k + 2 ^ 63)) x.0) ∙ sym x.1
    by_zero (inr x) =
        let high : star k ≡ k + 2 ^ 63 = ap (λ t. cond t 0 (k + 2 ^ 63)) x.0 in
        let over : nat_lt (k + 2 ^ 63) (2 ^ 63) ≡ false = le-ltb (k + 2 ^ 63) (2 ^ 63) (omega arith) in
        let less : k + 2 ^ 63 - 2 ^ 63 ≡ k = omega arith in
        ap plain_key high ∙ ap (λ t. cond t (k + 2 ^ 63) (k + 2 ^ 63 - 2 ^ 63)) over ∙ less

-- a star below 2^63 is that of the epoch key
pub low_star : (k : ℕ) → star k < 2 ^ 63 → k ≡ 0
low_star k low = by_zero (eqb_tells k 0)
  where
    by_zero : ((nat_eq k 0 ≡ true) × (k ≡ 0)) ⊎ ((nat_eq k 0 ≡ false) × (k ≡ 0 → ⊥)) → k ≡ 0
    by_zero (inl x) = x.1
    by_zero (inr x) = let high : star k ≡ k + 2 ^ 63 = ap (λ t. cond t 0 (k + 2 ^ 63)) x.0 in absurd (omega (arith, high, low))

same_test : (a b : ℕ) → nat_eq (star a) (star b) ≡ nat_eq a b
same_test a b = by_test (eqb_tells a b) (eqb_tells (star a) (star b))
  where
    by_test : ((nat_eq a b ≡ true) × (a ≡ b)) ⊎ ((nat_eq a b ≡ false) × (a ≡ b → ⊥)) → ((nat_eq (star a) (star b) ≡ true) × (star a ≡ star b)) ⊎ ((nat_eq (star a) (star b) ≡ false) × (star a ≡ star b → ⊥)) → nat_eq (star a) (star b) ≡ nat_eq a b
    by_test (inl x) (inl y) = y.0 ∙ sym x.0
    by_test (inl x) (inr y) = absurd (y.1 (ap star x.1))
    by_test (inr x) (inl y) = absurd (x.1 (star_of_one a b y.1))
    by_test (inr x) (inr y) = y.0 ∙ sym x.0

any_star : (k : ℕ) (keys : List ℕ) → list_any (nat_eq (star k)) (map star keys) ≡ list_any (nat_eq k) keys
any_star k [] = refl
any_star k (key ∷ keys) = ap (λ t. t || list_any (nat_eq (star k)) (map star keys)) (same_test k key) ∙ ap (λ t. nat_eq k key || t) (any_star k keys)

-- what stands for a begin writes the star of a key exactly where the transaction writes the key
pub begin_writes : (history : History) (id : TxnId) (k : ℕ) → writes_key (txn_at (split_history history) (begin_half id)) (star k) ≡ writes_key (txn_at history id) k
begin_writes history id k = ap (λ o. writes_key o (star k)) (at_begin history id) ∙ by_found (txn_at history id)
  where
    by_found : (found : Option Txn) → writes_key (option_map begin_txn found) (star k) ≡ writes_key found k
    by_found None = refl
    by_found (Some txn) = any_star k txn.writes

-- what stands for a commit writes what the transaction writes
pub commit_writes : (history : History) (id : TxnId) (k : ℕ) → writes_key (txn_at (split_history history) (commit_half id)) k ≡ writes_key (txn_at history id) k
commit_writes history id k = ap (λ o. writes_key o k) (at_commit history id) ∙ by_found (txn_at history id)
  where
    by_found : (found : Option Txn) → writes_key (option_map (commit_txn id) found) k ≡ writes_key found k
    by_found None = refl
    by_found (Some txn) = refl

none_low : (key : ℕ) → 0 < key → key < 2 ^ 63 → (keys : List ℕ) → list_any (nat_eq key) (map star keys) ≡ false
none_low key some low [] = refl
none_low key some low (k ∷ keys) = ap (λ t. t || list_any (nat_eq key) (map star keys)) (by_test (eqb_tells key (star k))) ∙ none_low key some low keys
  where
    by_test : ((nat_eq key (star k) ≡ true) × (key ≡ star k)) ⊎ ((nat_eq key (star k) ≡ false) × (key ≡ star k → ⊥)) → nat_eq key (star k) ≡ false
    by_test (inl x) = let none : k ≡ 0 = low_star k (subst (λ n. n < 2 ^ 63) x.1 low) in absurd (let e : key ≡ 0 = x.1 ∙ ap star none in omega arith)
    by_test (inr x) = x.0

-- it writes no other key of the history
pub begin_writes_none : (history : History) (id : TxnId) (key : ℕ) → 0 < key → key < 2 ^ 63 → writes_key (txn_at (split_history history) (begin_half id)) key ≡ false
begin_writes_none history id key some low = ap (λ o. writes_key o key) (at_begin history id) ∙ by_found (txn_at history id)
  where
    by_found : (found : Option Txn) → writes_key (option_map begin_txn found) key ≡ false
    by_found None = refl
    by_found (Some txn) = none_low key some low txn.writes
