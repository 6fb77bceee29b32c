-- Last writers that are overruled, entry after entry.
use Rattle.std.proofs.Common.{◌≡◌, ℕ, ◌+◌, ◌<◌, ◌≤◌, Bool, true, false, T, cond, nat_eq, nat_lt, List, [], ◌∷◌, ◌++◌, length, get_or, take, Some, None, Option, refl, sym, subst, ap, ◌∙◌, arith, suc, zero}
use Rattle.std.specs.Ordering.{nat_cmp, is_lt, eq_by_cmp}
use Rattle.std.specs.FinMap.{FinMap, entries, entries_sorted, find, get, get-entries, get-insert, insert, is_sorted}
use Rattle.std.specs.FinMap.Entries.{below_all, find-append}
use Rattle.std.proofs.lemmas.Bool.{ltb-true, ne_eqb}
use Rattle.std.proofs.lemmas.Bool.Decides.{nat_tests}
use Rattle.std.proofs.lemmas.Cmp.{nat_cmp_total}
use Rattle.std.proofs.lemmas.List.{take_more, take_all}
use Rattle.std.proofs.Math.Facts.{and_yes}
use Rattle.txn.specs.declared.transactions.TxnId.{TxnId}
use Rattle.order_check.specs.Settled.{or_else}
use Rattle.truncate.specs.Overruled.{AreOverruled}

-- a lower key isn't at a higher one
not_at : (x y : ℕ) → T (is_lt (nat_cmp x y)) → eq_by_cmp nat_cmp y x ≡ false
not_at x y h = ties ∙ ne_eqb y x (λ same. let below = ltb-true x y (from_T (nat_lt x y) (subst T lower_by h)) in omega (arith, below, same))
  where
    ties : eq_by_cmp nat_cmp y x ≡ nat_eq y x
    ties = grind (arith, nat_tests)

    lower_by : is_lt (nat_cmp x y) ≡ nat_lt x y
    lower_by = grind (arith, nat_tests)

    from_T : (b : Bool) → T b → b ≡ true
    from_T true h = refl
    from_T false h = absurd h

lower : (x : ℕ) (es : List (ℕ × TxnId)) → T (below_all nat_cmp x es) → (i : ℕ) (d : ℕ × TxnId) → i < length es → T (is_lt (nat_cmp x (get_or es i d).0))
lower x [] h i d within = absurd (omega arith)
lower x (e ∷ es) h zero d within = (and_yes (is_lt (nat_cmp x e.0)) (below_all nat_cmp x es) h).0
lower x (e ∷ es) h (suc i) d within = lower x es (and_yes (is_lt (nat_cmp x e.0)) (below_all nat_cmp x es) h).1 i d (omega arith)

-- the key of an entry is not among those before it
none_before : (es : List (ℕ × TxnId)) → T (is_sorted nat_cmp es) → (i : ℕ) (d : ℕ × TxnId) → i < length es → find nat_cmp (get_or es i d).0 (take i es) ≡ None
none_before [] sorted i d within = absurd (omega arith)
none_before (e ∷ es) sorted zero d within = refl
none_before (e ∷ es) sorted (suc i) d within =
    let parts = and_yes (below_all nat_cmp e.0 es) (is_sorted nat_cmp es) sorted in
    let key = (get_or es i d).0 in
    ap (λ b. cond b (Some e.1) (find nat_cmp key (take i es))) (not_at e.0 key (lower e.0 es parts.0 i d (omega arith))) ∙ none_before es parts.1 i d (omega arith)

cond_else : (b : Bool) (x : TxnId) (f g : Option TxnId) → cond b (Some x) (or_else f g) ≡ or_else (cond b (Some x) f) g
cond_else true x f g = refl
cond_else false x f g = refl

pub overruled_next : (others old new : FinMap nat_cmp TxnId) (es : List (ℕ × TxnId)) (i : ℕ) (d : ℕ × TxnId) → es ≡ entries others → i < length es → AreOverruled (take i es) old new → AreOverruled (take (i + 1) es) old (insert new (get_or es i d).0 (get_or es i d).1)
overruled_next others old new es i d same within so_far key =
    let e = get_or es i d in
    let at = eq_by_cmp nat_cmp key e.0 in
    let found : find nat_cmp key (take i es ++ (e.0, e.1) ∷ []) ≡ cond at (Some e.1) (find nat_cmp key (take i es)) = find-append nat_cmp nat_cmp_total (take i es) e.0 e.1 key (none_before es (subst (λ xs. T (is_sorted nat_cmp xs)) (sym same) (entries_sorted others)) i d within) in
    get-insert nat_cmp_total new e.0 e.1 key ∙ ap (cond at (Some e.1)) (so_far key) ∙ cond_else at e.1 (find nat_cmp key (take i es)) (get old key)
    ∙ ap (λ o. or_else o (get old key)) (sym found) ∙ ap (λ front. or_else (find nat_cmp key front) (get old key)) (sym (take_more es i d within))

pub overruled_all : (others old new : FinMap nat_cmp TxnId) (es : List (ℕ × TxnId)) (i : ℕ) → es ≡ entries others → length es ≤ i → AreOverruled (take i es) old new → (key : ℕ) → get new key ≡ or_else (get others key) (get old key)
overruled_all others old new es i same past so_far key =
    so_far key ∙ ap (λ xs. or_else (find nat_cmp key xs) (get old key)) (take_all i es past ∙ same) ∙ ap (λ o. or_else o (get old key)) (sym (get-entries others key))
