-- The writes of listed ids.
use Rattle.std.proofs.Common.{◌≡◌, ℕ, ◌+◌, ◌<◌, ◌≤◌, ◌⊎◌, ◌||◌, true, false, List, [], ◌∷◌, ◌++◌, length, get_or, take, suc, zero, nat_eq, sym, ap, ◌∙◌, inl, inr, subst, arith, Option, Some, None}
use Rattle.std.specs.Prelude.{Contains}
use Rattle.std.specs.List.{list_any}
use Rattle.std.proofs.lemmas.Bool.{false≢true}
use Rattle.std.proofs.lemmas.Bool.Decides.{eqb_tells}
use Rattle.std.proofs.lemmas.List.{take_more, take_all}
use Rattle.std.proofs.lemmas.List.Elements.{Contains-push, Contains-push_cases, Contains-append_left}
use Rattle.list_lemmas.proofs.Members.{none_in_none}
use Rattle.txn.specs.declared.transactions.TxnId.{TxnId}
use Rattle.txn.specs.declared.transactions.Txn.{Txn}
use Rattle.txn.specs.History.{writes_key, writes_in}
use Rattle.order_check.specs.declared.remainder.Parts.{Parts}
use Rattle.order_check.specs.Based.{remaining_at}
use Rattle.order_check.specs.Known.{WritesKey}
use Rattle.settle.specs.Writers.{GainsWrites, AreWritesOf}

-- a list has a key where a test finds it

cons_there : {X : Type 0} (xs : List X) (y x : X) → Contains xs x → Contains (y ∷ xs) x
cons_there xs y x (k, within, is) = (suc k, omega arith, is)

any_contains : (key : ℕ) (keys : List ℕ) → list_any (nat_eq key) keys ≡ true → Contains keys key
any_contains key [] h = absurd (false≢true h)
any_contains key (x ∷ keys) h = by_test (eqb_tells key x) (any_contains key keys)
  where
    by_test : ((nat_eq key x ≡ true) × (key ≡ x)) ⊎ ((nat_eq key x ≡ false) × (key ≡ x → ⊥)) → (list_any (nat_eq key) keys ≡ true → Contains keys key) → Contains (x ∷ keys) key
    by_test (inl (t, e)) rest = (0, omega arith, sym e)
    by_test (inr (t, apart)) rest = cons_there keys x key (rest (sym (ap (λ b. b || list_any (nat_eq key) keys) t) ∙ h))

contains_any : (key : ℕ) (keys : List ℕ) → Contains keys key → list_any (nat_eq key) keys ≡ true
contains_any key [] (k, within, is) = absurd (omega arith)
contains_any key (x ∷ keys) (zero, within, is) = by_test (eqb_tells key x)
  where
    by_test : ((nat_eq key x ≡ true) × (key ≡ x)) ⊎ ((nat_eq key x ≡ false) × (key ≡ x → ⊥)) → list_any (nat_eq key) (x ∷ keys) ≡ true
    by_test (inl (t, e)) = ap (λ b. b || list_any (nat_eq key) keys) t
    by_test (inr (t, apart)) = absurd (apart (sym is))
contains_any key (x ∷ keys) (suc k, within, is) = by_test (eqb_tells key x) (contains_any key keys (k, omega arith, is))
  where
    by_test : ((nat_eq key x ≡ true) × (key ≡ x)) ⊎ ((nat_eq key x ≡ false) × (key ≡ x → ⊥)) → list_any (nat_eq key) keys ≡ true → list_any (nat_eq key) (x ∷ keys) ≡ true
    by_test (inl (t, e)) rest = ap (λ b. b || list_any (nat_eq key) keys) t
    by_test (inr (t, apart)) rest = ap (λ b. b || list_any (nat_eq key) keys) t ∙ rest

writes_there : (parts : Parts) (id : TxnId) (key : ℕ) → WritesKey parts id key → Contains (writes_in (remaining_at parts id)) key
writes_there parts id key h = by_found (remaining_at parts id) h
  where
    by_found : (found : Option Txn) → writes_key found key ≡ true → Contains (writes_in found) key
    by_found None e = absurd (false≢true e)
    by_found (Some txn) e = any_contains key txn.writes e

there_writes : (parts : Parts) (id : TxnId) (key : ℕ) → Contains (writes_in (remaining_at parts id)) key → WritesKey parts id key
there_writes parts id key h = by_found (remaining_at parts id) h
  where
    by_found : (found : Option Txn) → Contains (writes_in found) key → writes_key found key ≡ true
    by_found None h = absurd (none_in_none key h)
    by_found (Some txn) h = contains_any key txn.writes h

pub gains_none : (keys : List ℕ) (id : TxnId) (old : List (ℕ × TxnId)) → GainsWrites (take 0 keys) id old old
gains_none keys id old = record { stays = λ write h. h; gained = λ key h. absurd (none_in_none key h); only = λ key other h. inl h }

gains_push : (front : List ℕ) (key : ℕ) (id : TxnId) (old new : List (ℕ × TxnId)) → GainsWrites front id old new → GainsWrites (front ++ key ∷ []) id old (new ++ (key, id) ∷ [])
gains_push front key id old new so_far = record { stays = λ write h. Contains-append_left new ((key, id) ∷ []) write (so_far.stays write h); gained = gained; only = only }
  where
    gained : (k : ℕ) → Contains (front ++ key ∷ []) k → Contains (new ++ (key, id) ∷ []) (k, id)
    gained k h = by_part (Contains-push_cases front key k h)
      where
        by_part : Contains front k ⊎ (key ≡ k) → Contains (new ++ (key, id) ∷ []) (k, id)
        by_part (inl there) = Contains-append_left new ((key, id) ∷ []) (k, id) (so_far.gained k there)
        by_part (inr e) = subst (λ (n : ℕ). Contains (new ++ (key, id) ∷ []) (n, id)) e (Contains-push new (key, id))

    only : (k : ℕ) (other : TxnId) → Contains (new ++ (key, id) ∷ []) (k, other) → Contains old (k, other) ⊎ ((other ≡ id) × Contains (front ++ key ∷ []) k)
    only k other h = by_part (Contains-push_cases new (key, id) (k, other) h)
      where
        by_case : Contains old (k, other) ⊎ ((other ≡ id) × Contains front k) → Contains old (k, other) ⊎ ((other ≡ id) × Contains (front ++ key ∷ []) k)
        by_case (inl there) = inl there
        by_case (inr (same, there)) = inr (same, Contains-append_left front (key ∷ []) k there)

        by_part : Contains new (k, other) ⊎ ◌≡◌ {A = ℕ × TxnId} (key, id) (k, other) → Contains old (k, other) ⊎ ((other ≡ id) × Contains (front ++ key ∷ []) k)
        by_part (inl there) = by_case (so_far.only k other there)
        by_part (inr e) = inr (sym (ap (λ (p : ℕ × TxnId). p.1) e), subst (λ n. Contains (front ++ key ∷ []) n) (ap (λ (p : ℕ × TxnId). p.0) e) (Contains-push front key))

pub gains_next : (keys : List ℕ) (id : TxnId) (old new : List (ℕ × TxnId)) (k d : ℕ) → k < length keys → GainsWrites (take k keys) id old new → GainsWrites (take (k + 1) keys) id old (new ++ (get_or keys k d, id) ∷ [])
gains_next keys id old new k d within so_far = subst (λ front. GainsWrites front id old (new ++ (get_or keys k d, id) ∷ [])) (sym (take_more keys k d within)) (gains_push (take k keys) (get_or keys k d) id old new so_far)

pub gains_all : (keys : List ℕ) (id : TxnId) (old new : List (ℕ × TxnId)) (k : ℕ) → length keys ≤ k → GainsWrites (take k keys) id old new → GainsWrites keys id old new
gains_all keys id old new k past so_far = subst (λ front. GainsWrites front id old new) (take_all k keys past) so_far

pub writes_none : (parts : Parts) (ids : List TxnId) → AreWritesOf parts (take 0 ids) []
writes_none parts ids = record { all = λ key id h w. absurd (none_in_none id h); only = λ key id h. absurd (none_in_none (key, id) h) }

writes_push : (parts : Parts) (front : List TxnId) (one : TxnId) (old new : List (ℕ × TxnId)) → AreWritesOf parts front old → GainsWrites (writes_in (remaining_at parts one)) one old new → AreWritesOf parts (front ++ one ∷ []) new
writes_push parts front one old new so_far gains = record { all = all; only = only }
  where
    all : (key : ℕ) (id : TxnId) → Contains (front ++ one ∷ []) id → WritesKey parts id key → Contains new (key, id)
    all key id h written = by_part (Contains-push_cases front one id h)
      where
        by_part : Contains front id ⊎ (one ≡ id) → Contains new (key, id)
        by_part (inl there) = gains.stays (key, id) (so_far.all key id there written)
        by_part (inr e) = subst (λ (x : TxnId). Contains new (key, x)) e (gains.gained key (writes_there parts one key (subst (λ x. WritesKey parts x key) (sym e) written)))

    only : (key : ℕ) (id : TxnId) → Contains new (key, id) → Contains (front ++ one ∷ []) id × WritesKey parts id key
    only key id h = by_part (gains.only key id h)
      where
        by_part : Contains old (key, id) ⊎ ((id ≡ one) × Contains (writes_in (remaining_at parts one)) key) → Contains (front ++ one ∷ []) id × WritesKey parts id key
        by_part (inl there) = let found = so_far.only key id there in (Contains-append_left front (one ∷ []) id found.0, found.1)
        by_part (inr (same, there)) = (subst (λ x. Contains (front ++ one ∷ []) x) (sym same) (Contains-push front one), subst (λ x. WritesKey parts x key) (sym same) (there_writes parts one key there))

pub writes_next : (parts : Parts) (ids : List TxnId) (old new : List (ℕ × TxnId)) (k : ℕ) (d : TxnId) → k < length ids → AreWritesOf parts (take k ids) old → GainsWrites (writes_in (remaining_at parts (get_or ids k d))) (get_or ids k d) old new → AreWritesOf parts (take (k + 1) ids) new
writes_next parts ids old new k d within so_far gains = subst (λ front. AreWritesOf parts front new) (sym (take_more ids k d within)) (writes_push parts (take k ids) (get_or ids k d) old new so_far gains)

pub writes_all : (parts : Parts) (ids : List TxnId) (writes : List (ℕ × TxnId)) (k : ℕ) → length ids ≤ k → AreWritesOf parts (take k ids) writes → AreWritesOf parts ids writes
writes_all parts ids writes k past so_far = subst (λ front. AreWritesOf parts front writes) (take_all k ids past) so_far
