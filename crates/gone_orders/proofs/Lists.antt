-- Lists in two pieces, and the last writer of a key in a list.
use Rattle.std.proofs.Common.{◌≡◌, ℕ, zero, suc, ◌+◌, ◌≤◌, ◌⊎◌, Bool, true, false, List, [], ◌∷◌, ◌++◌, length, take, drop, get_or, Option, refl, sym, ap, subst, ◌∙◌, inl, inr, arith, append_assoc}
use Rattle.std.specs.Prelude.{All}
use Rattle.std.proofs.lemmas.Bool.{false≢true}
use Rattle.std.proofs.lemmas.List.Elements.{All-append, All-head, All-tail}
use Rattle.list_lemmas.proofs.Places.{IsAt, place_right}
use Rattle.txn.specs.declared.transactions.TxnId.{TxnId}
use Rattle.txn.specs.declared.transactions.Txn.{Txn}
use Rattle.txn.specs.History.{ids_from, writes_key, NoneWrites, IsLastWriter}
use Rattle.order_check.proofs.CutReads.{place_has}
use Rattle.order_check.proofs.Fenced.{at_place}

-- ---- pieces

pub drop_seam : {X : Type 0} (n : ℕ) (xs ys : List X) → n ≤ length xs → drop n (xs ++ ys) ≡ drop n xs ++ ys
drop_seam zero xs ys within = refl
drop_seam (suc n) [] ys within = absurd (omega (arith, within))
drop_seam (suc n) (x ∷ xs) ys within = drop_seam n xs ys (omega (arith, within))

none_taken : {X : Type 0} (n : ℕ) → take {A = X} n [] ≡ []
none_taken zero = refl
none_taken (suc n) = refl

none_dropped : {X : Type 0} (n : ℕ) → drop {A = X} n [] ≡ []
none_dropped zero = refl
none_dropped (suc n) = refl

-- first so many, then so many of the others
pub take_more : {X : Type 0} (n m : ℕ) (xs : List X) → take (n + m) xs ≡ take n xs ++ take m (drop n xs)
take_more zero m xs = let e : 0 + m ≡ m = omega arith in ap (λ k. take k xs) e
take_more (suc n) m [] = none_taken (suc n + m) ∙ sym (none_taken m)
take_more (suc n) m (x ∷ xs) = let e : suc n + m ≡ suc (n + m) = omega arith in ap (λ k. take k (x ∷ xs)) e ∙ ap (λ ys. x ∷ ys) (take_more n m xs)

pub drop_more : {X : Type 0} (n m : ℕ) (xs : List X) → drop m (drop n xs) ≡ drop (n + m) xs
drop_more zero m xs = let e : m ≡ 0 + m = omega arith in ap (λ k. drop k xs) e
drop_more (suc n) m [] = none_dropped m ∙ sym (none_dropped (suc n + m))
drop_more (suc n) m (x ∷ xs) = let e : suc (n + m) ≡ suc n + m = omega arith in drop_more n m xs ∙ ap (λ k. drop k (x ∷ xs)) e

-- two lists with one front have one rest
pub same_rest : {X : Type 0} (xs ys zs : List X) → xs ++ ys ≡ xs ++ zs → ys ≡ zs
same_rest [] ys zs e = e
same_rest (x ∷ xs) ys zs e = same_rest xs ys zs (let rest : xs ++ ys ≡ xs ++ zs = cc in rest)

-- the front of a list in two pieces
pub front_taken : {X : Type 0} (xs ys zs : List X) → xs ++ ys ≡ zs → xs ≡ take (length xs) zs
front_taken [] ys zs e = refl
front_taken (x ∷ xs) ys [] e = absurd cc
front_taken (x ∷ xs) ys (z ∷ zs) e = let same : x ≡ z = cc in let rest : xs ++ ys ≡ zs = cc in λ i. same i ∷ front_taken xs ys zs rest i

pub all_more : {X : Type 0} (P : X → Type 0) (x : X) (xs : List X) → P x → All P xs → All P (x ∷ xs)
all_more P x xs one all zero d within = one
all_more P x xs one all (suc k) d within = all k d (omega (arith, within))

pub all_left : {X : Type 0} (P : X → Type 0) (xs ys : List X) → All P (xs ++ ys) → All P xs
all_left P [] ys all = λ k d within. absurd (omega (arith, within))
all_left P (x ∷ xs) ys all = all_more P x xs (All-head P x (xs ++ ys) all) (all_left P xs ys (All-tail P x (xs ++ ys) all))

pub all_right : {X : Type 0} (P : X → Type 0) (xs ys : List X) → All P (xs ++ ys) → All P ys
all_right P [] ys all = all
all_right P (x ∷ xs) ys all = all_right P xs ys (All-tail P x (xs ++ ys) all)

-- ---- ids of a session

pub ids_append : (s m : ℕ) (xs ys : List Txn) → ids_from s m (xs ++ ys) ≡ ids_from s m xs ++ ids_from s (m + length xs) ys
ids_append s m [] ys = let e : m ≡ m + 0 = omega arith in ap (λ k. ids_from s k ys) e
ids_append s m (x ∷ xs) ys = let e : m + 1 + length xs ≡ m + suc (length xs) = omega arith in ap (λ ids. record { session = s; number = m } ∷ ids) (ids_append s (m + 1) xs ys ∙ ap (λ k. ids_from s (m + 1) xs ++ ids_from s k ys) e)

pub ids_taken : (s m k : ℕ) (txns : List Txn) → take k (ids_from s m txns) ≡ ids_from s m (take k txns)
ids_taken s m zero txns = refl
ids_taken s m (suc k) [] = refl
ids_taken s m (suc k) (txn ∷ txns) = ap (λ ids. record { session = s; number = m } ∷ ids) (ids_taken s (m + 1) k txns)

-- ---- places

pub at_seam : (xs ys : List TxnId) (id : TxnId) → IsAt (xs ++ id ∷ ys) id
at_seam xs ys id = (length xs + 0, place_right xs (id ∷ ys) 0 id refl)

pub at_right : (xs ys : List TxnId) (id : TxnId) → IsAt ys id → IsAt (xs ++ ys) id
at_right xs ys id (k, at) = (length xs + k, place_right xs ys k id at)

pub behind_seam : (xs ys : List TxnId) (seam id : TxnId) → IsAt ys id → IsAt (xs ++ seam ∷ ys) id
behind_seam xs ys seam id (k, at) = (length xs + suc k, place_right xs (seam ∷ ys) (suc k) id at)

-- ---- last writers

-- two ways to look up that agree about all that stands in a list
abbrev pub AgreeOn : (TxnId → Option Txn) → (TxnId → Option Txn) → List TxnId → Type 0
AgreeOn at other ids = (id : TxnId) → IsAt ids id → at id ≡ other id

pub none_moved : (at other : TxnId → Option Txn) (key : ℕ) (ids : List TxnId) → AgreeOn at other ids → NoneWrites at key ids → NoneWrites other key ids
none_moved at other key ids agree none k d within = sym (ap (λ o. writes_key o key) (agree (get_or ids k d) (at_place ids (get_or ids k d) (place_has ids k d within)))) ∙ none k d within

pub last_moved : (at other : TxnId → Option Txn) (key : ℕ) (ids : List TxnId) (writer : TxnId) → AgreeOn at other ids → IsLastWriter at key ids writer → IsLastWriter other key ids writer
last_moved at other key ids writer agree (older, newer, e, writes, none) = (
  older,
  newer,
  e,
  sym (ap (λ o. writes_key o key) (agree writer (subst (λ xs. IsAt xs writer) (sym e) (at_seam older newer writer)))) ∙ writes,
  none_moved at other key newer (λ id here. agree id (subst (λ xs. IsAt xs id) (sym e) (behind_seam older newer writer id here))) none,
)

pub agree_back : (at other : TxnId → Option Txn) (ids : List TxnId) → AgreeOn at other ids → AgreeOn other at ids
agree_back at other ids agree id here = sym (agree id here)

-- something in the list writes the key last, or nothing does
pub last_or_none : (at : TxnId → Option Txn) (key : ℕ) (ids : List TxnId) → ((writer : TxnId) × IsLastWriter at key ids writer) ⊎ NoneWrites at key ids
last_or_none at key [] = inr (λ k d within. absurd (omega (arith, within)))
last_or_none at key (id ∷ ids) = by_rest (last_or_none at key ids)
  where
    by_test : NoneWrites at key ids → (t : Bool) → writes_key (at id) key ≡ t → ((writer : TxnId) × IsLastWriter at key (id ∷ ids) writer) ⊎ NoneWrites at key (id ∷ ids)
    by_test none true e = inl (id, ([], ids, refl, e, none))
    by_test none false e = inr (all_more (λ x. writes_key (at x) key ≡ false) id ids e none)

    by_rest : ((writer : TxnId) × IsLastWriter at key ids writer) ⊎ NoneWrites at key ids → ((writer : TxnId) × IsLastWriter at key (id ∷ ids) writer) ⊎ NoneWrites at key (id ∷ ids)
    by_rest (inl (writer, (older, newer, e, writes, none))) = inl (writer, (id ∷ older, newer, ap (λ xs. id ∷ xs) e, writes, none))
    by_rest (inr none) = by_test none (writes_key (at id) key) refl

-- who stands where nothing writes the key doesn't write it
pub not_there : (at : TxnId → Option Txn) (key : ℕ) (ids : List TxnId) (id : TxnId) → NoneWrites at key ids → IsAt ids id → writes_key (at id) key ≡ true → ⊥
not_there at key [] id none (k, here) writes = absurd cc
not_there at key (x ∷ ids) id none (zero, here) writes = let same : x ≡ id = cc in false≢true (sym (All-head (λ y. writes_key (at y) key ≡ false) x ids none) ∙ ap (λ y. writes_key (at y) key) same ∙ writes)
not_there at key (x ∷ ids) id none (suc k, here) writes = not_there at key ids id (All-tail (λ y. writes_key (at y) key ≡ false) x ids none) (k, here) writes

-- only one does it last
pub one_last : (at : TxnId → Option Txn) (key : ℕ) (o1 o2 n1 n2 : List TxnId) (a b : TxnId) → o1 ++ a ∷ n1 ≡ o2 ++ b ∷ n2 → writes_key (at a) key ≡ true → writes_key (at b) key ≡ true → NoneWrites at key n1 → NoneWrites at key n2 → a ≡ b
one_last at key [] [] n1 n2 a b e writes_a writes_b none_1 none_2 = cc
one_last at key [] (x ∷ o2) n1 n2 a b e writes_a writes_b none_1 none_2 = let rest : n1 ≡ o2 ++ b ∷ n2 = cc in absurd (not_there at key n1 b none_1 (subst (λ xs. IsAt xs b) (sym rest) (at_seam o2 n2 b)) writes_b)
one_last at key (x ∷ o1) [] n1 n2 a b e writes_a writes_b none_1 none_2 = let rest : o1 ++ a ∷ n1 ≡ n2 = cc in absurd (not_there at key n2 a none_2 (subst (λ xs. IsAt xs a) rest (at_seam o1 n1 a)) writes_a)
one_last at key (x ∷ o1) (y ∷ o2) n1 n2 a b e writes_a writes_b none_1 none_2 = one_last at key o1 o2 n1 n2 a b (let rest : o1 ++ a ∷ n1 ≡ o2 ++ b ∷ n2 = cc in rest) writes_a writes_b none_1 none_2

pub same_last : (at : TxnId → Option Txn) (key : ℕ) (ids : List TxnId) (a b : TxnId) → IsLastWriter at key ids a → IsLastWriter at key ids b → a ≡ b
same_last at key ids a b (o1, n1, e1, w1, none_1) (o2, n2, e2, w2, none_2) = one_last at key o1 o2 n1 n2 a b (sym e1 ∙ e2) w1 w2 none_1 none_2

-- nothing behind the list writes it
pub last_ahead : (at : TxnId → Option Txn) (key : ℕ) (xs ys : List TxnId) (writer : TxnId) → IsLastWriter at key xs writer → NoneWrites at key ys → IsLastWriter at key (xs ++ ys) writer
last_ahead at key xs ys writer (older, newer, e, writes, none) quiet = (older, newer ++ ys, ap (λ zs. zs ++ ys) e ∙ append_assoc older (writer ∷ newer) ys, writes, All-append (λ id. writes_key (at id) key ≡ false) newer ys none quiet)

-- whatever stands in front
pub last_behind : (at : TxnId → Option Txn) (key : ℕ) (xs ys : List TxnId) (writer : TxnId) → IsLastWriter at key ys writer → IsLastWriter at key (xs ++ ys) writer
last_behind at key xs ys writer (older, newer, e, writes, none) = (xs ++ older, newer, ap (λ zs. xs ++ zs) e ∙ sym (append_assoc xs older (writer ∷ newer)), writes, none)
