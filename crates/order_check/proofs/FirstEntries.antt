-- The entries of a map that are kept by a test of their keys, and the first of them.
use Rattle.std.proofs.Common.{◌≡◌, ℕ, zero, suc, ◌<◌, ◌≤◌, Bool, true, false, not, cond, T, None, Option, List, [], ◌∷◌, ◌++◌, length, take, filter, nat_lt, nat_le, refl, sym, ap, ◌∙◌, inl, inr, ◌⊎◌, arith}
use Rattle.std.specs.BTreeMap.{is_at}
use Rattle.std.specs.Ordering.{nat_cmp, is_lt}
use Rattle.std.specs.declared.cmp.Ordering.TheVariants.{Less, Equal, Greater}
use Rattle.std.specs.FinMap.{FinMap, entries, entries_sorted, entries-from_sorted, from_entries, from_sorted, get-entries, get-from_sorted, same_map, nat_cmp-IsAntisymmetric, is_sorted}
use Rattle.std.specs.FinMap.Entries.{below_all, find-where_key, is_sorted-where_key}
use Rattle.std.proofs.Math.Facts.{and_yes}
use Rattle.std.proofs.lemmas.Bool.{leb-true, le-leb, le-ltb, lt-leb, lt-ltb, cases_lt}
use Rattle.std.proofs.lemmas.Cmp.{nat_cmp_total}
use Rattle.std.proofs.lemmas.Map.Entries.{lookup-filter-keys}
use Rattle.std.proofs.lemmas.Map.Lookups.{exact_unsigned}
use Rattle.txn.specs.declared.transactions.TxnId.{TxnId}
use Rattle.order_check.specs.Settled.{or_else}
use Rattle.order_check.proofs.RisingLists.{get_both}
use Rattle.order_check.proofs.WriterEntries.{entries-from_entries}
use Rattle.order_check.proofs.Writers.{entry_at, same_key}
use Rattle.order_check.specs.Rising.{IsRising}

-- what is found after a test of the keys
entry_at-filter : (p : ℕ → Bool) (es : List (ℕ × TxnId)) (q : ℕ) → entry_at (filter (λ e. p e.0) es) q ≡ cond (p q) (entry_at es q) None
entry_at-filter p es q = lookup-filter-keys (is_at (nat_cmp q)) p (p q) (λ k at. ap p (sym (same_key q k at))) es

both_kept : (b : Bool) (x y : Option TxnId) → cond b (or_else x y) None ≡ or_else (cond b x None) (cond b y None)
both_kept true x y = refl
both_kept false x y = refl

-- the entries that pass a test of their keys are those of what passes
pub kept_entries : (p : ℕ → Bool) (es fs : List (ℕ × TxnId)) → filter (λ e. p e.0) (entries (from_entries {R = nat_cmp} (es ++ fs))) ≡ entries (from_entries {R = nat_cmp} (filter (λ e. p e.0) es ++ filter (λ e. p e.0) fs))
kept_entries p es fs =
    sym (entries-from_sorted nat_cmp kept sorted)
    ∙ ap entries (same_map nat_cmp_total nat_cmp-IsAntisymmetric (from_sorted kept) (from_entries (filter (λ e. p e.0) es ++ filter (λ e. p e.0) fs)) (λ q.
    get-from_sorted nat_cmp kept q sorted
    ∙ find-where_key nat_cmp p q (λ x at. ap p (sym (exact_unsigned q x at))) (entries m)
    ∙ ap (λ found. cond (p q) found None) (sym (get-entries m q) ∙ get_both es fs q)
    ∙ both_kept (p q) (entry_at es q) (entry_at fs q)
    ∙ sym (ap (λ found. or_else found (entry_at (filter (λ e. p e.0) fs) q)) (entry_at-filter p es q) ∙ ap (λ found. or_else (cond (p q) (entry_at es q) None) found) (entry_at-filter p fs q))
    ∙ sym (get_both (filter (λ e. p e.0) es) (filter (λ e. p e.0) fs) q)))
  where
    m : FinMap nat_cmp TxnId
    m = from_entries (es ++ fs)

    kept : List (ℕ × TxnId)
    kept = filter (λ e. p e.0) (entries m)

    sorted : T (is_sorted nat_cmp kept)
    sorted = is_sorted-where_key nat_cmp p (entries m) (entries_sorted m)

-- a list whose keys rise, and whose map is that of what passes, is what passes of the map
pub kept_by : (p : ℕ → Bool) (es fs all : List (ℕ × TxnId)) → IsRising all → from_entries {R = nat_cmp} all ≡ from_entries (filter (λ e. p e.0) es ++ filter (λ e. p e.0) fs) → all ≡ filter (λ e. p e.0) (entries (from_entries {R = nat_cmp} (es ++ fs)))
kept_by p es fs all rising same = sym (entries-from_entries all rising) ∙ ap entries same ∙ sym (kept_entries p es fs)

less_case : (t u : Bool) → T (is_lt (cond t Less (cond u Equal Greater))) → t ≡ true
less_case true u less = refl
less_case false true less = absurd less
less_case false false less = absurd less

less_lt : (a b : ℕ) → T (is_lt (nat_cmp a b)) → a < b
less_lt a b less = leb-true (suc a) b (less_case (nat_lt a b) _ less)

-- where all are above a key, none is below a bound that isn't above it
none_below : (bound k : ℕ) (es : List (ℕ × TxnId)) → bound ≤ k → T (below_all nat_cmp k es) → filter (λ e. nat_lt e.0 bound) es ≡ []
none_below bound k [] low above = refl
none_below bound k (e ∷ es) low above =
    let both = and_yes (is_lt (nat_cmp k e.0)) (below_all nat_cmp k es) above in
    let here : k < e.0 = less_lt k e.0 both.0 in
    ap (λ b. cond b (e ∷ filter (λ d. nat_lt d.0 bound) es) (filter (λ d. nat_lt d.0 bound) es)) (le-ltb e.0 bound (omega (arith, here, low))) ∙ none_below bound k es low both.1

-- the first of those below a bound are the first of all, as far as they reach
pub first_below : (bound n : ℕ) (es : List (ℕ × TxnId)) → T (is_sorted nat_cmp es) → n ≤ length (filter (λ e. nat_lt e.0 bound) es) → take n (filter (λ e. nat_lt e.0 bound) es) ≡ take n es
first_below bound zero es sorted enough = refl
first_below bound (suc n) [] sorted enough = refl
first_below bound (suc n) (e ∷ es) sorted enough = by_test (cases_lt e.0 bound) (and_yes (below_all nat_cmp e.0 es) (is_sorted nat_cmp es) sorted) (first_below bound n es)
  where
    rest : List (ℕ × TxnId)
    rest = filter (λ d. nat_lt d.0 bound) es

    by_test : (e.0 < bound) ⊎ (bound ≤ e.0) → T (below_all nat_cmp e.0 es) × T (is_sorted nat_cmp es) → (T (is_sorted nat_cmp es) → n ≤ length rest → take n rest ≡ take n es) → take (suc n) (cond (nat_lt e.0 bound) (e ∷ rest) rest) ≡ e ∷ take n es
    by_test (inl below) both so_far =
        let is : cond (nat_lt e.0 bound) (e ∷ rest) rest ≡ e ∷ rest = ap (λ b. cond b (e ∷ rest) rest) (lt-ltb e.0 bound below) in
        ap (take (suc n)) is ∙ ap (λ ds. e ∷ ds) (so_far both.1 (omega (arith, enough, ap length is)))
    by_test (inr above) both so_far =
        let is : cond (nat_lt e.0 bound) (e ∷ rest) rest ≡ [] = ap (λ b. cond b (e ∷ rest) rest) (le-ltb e.0 bound above) ∙ none_below bound e.0 es above both.0 in
        absurd (omega (arith, enough, ap length is))

-- a key isn't below another where the other is at most as great
pub not_below : (key k : ℕ) → not (nat_lt k key) ≡ nat_le key k
not_below key k = elim (cases_lt k key) [
  | inl below ↦ ap not (lt-ltb k key below) ∙ sym (lt-leb key k below)
  | inr above ↦ ap not (le-ltb k key above) ∙ sym (le-leb key k above)
]
