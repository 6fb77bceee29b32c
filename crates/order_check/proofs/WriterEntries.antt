-- The entries of the map that a sorted list makes are that list.
use Rattle.std.proofs.Common.{rules, ◌≡◌, ℕ, true, T, List, [], ◌∷◌, map, refl, sym, subst, ap, ◌∙◌}
use Rattle.std.specs.Ordering.{nat_cmp}
use Rattle.std.specs.declared.cmp.Ordering.TheVariants.{Less}
use Rattle.std.specs.List.{AllByRecursion}
use Rattle.std.specs.List.Sorted.{IsStrictlySortedBy}
use Rattle.std.specs.FinMap.{empty, entries, from_entries, from_sorted, get-from_entries, get-from_sorted, entries-from_sorted, same_map, nat_cmp-IsAntisymmetric, is_sorted}
use Rattle.std.specs.FinMap.Entries.{below_all}
use Rattle.std.proofs.lemmas.Cmp.{nat_cmp_total}
use Rattle.std.proofs.lemmas.Map.Keys.{sorted_head, sorted_tail}
use Rattle.txn.specs.declared.transactions.TxnId.{TxnId}

below_all_from_all : {X : Type 0} (key : ℕ) (es : List (ℕ × X)) → AllByRecursion (λ k. nat_cmp key k ≡ Less) (map (λ e. e.0) es) → below_all nat_cmp key es ≡ true
below_all_from_all key [] h = refl
below_all_from_all key (e ∷ es) h = rw h.0 (below_all_from_all key es h.1)

is_sorted_from_keys : {X : Type 0} (es : List (ℕ × X)) → IsStrictlySortedBy nat_cmp (map (λ e. e.0) es) → is_sorted nat_cmp es ≡ true
is_sorted_from_keys [] h = refl
is_sorted_from_keys (e ∷ es) h = rw (below_all_from_all e.0 es (sorted_head nat_cmp e.0 (map (λ d. d.0) es) h)) (is_sorted_from_keys es (sorted_tail nat_cmp e.0 (map (λ d. d.0) es) h))

pub entries-from_entries : {X : Type 0} (es : List (ℕ × X)) → IsStrictlySortedBy nat_cmp (map (λ e. e.0) es) → entries (from_entries {R = nat_cmp} es) ≡ es
entries-from_entries es h =
    let sorted : T (is_sorted nat_cmp es) = subst T (sym (is_sorted_from_keys es h)) tt in
    ap entries (same_map nat_cmp_total nat_cmp-IsAntisymmetric (from_entries es) (from_sorted es) (λ q. get-from_entries nat_cmp_total es q ∙ sym (get-from_sorted nat_cmp es q sorted)))
    ∙ entries-from_sorted nat_cmp es sorted

none_sorted : IsStrictlySortedBy nat_cmp []
unfolding IsStrictlySortedBy
none_sorted = search rules

-- the empty map has none
pub no_entries : entries (empty {K = ℕ} {X = TxnId} {R = nat_cmp}) ≡ []
no_entries = entries-from_entries {X = TxnId} [] none_sorted
