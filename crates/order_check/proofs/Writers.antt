-- The last writers that a list of entries makes.
use Rattle.std.proofs.Common.{◌≡◌, ℕ, cond, true, Option, Some, List, [], ◌∷◌, All, refl, sym, subst, ap, ◌∙◌}
use Rattle.std.specs.Ordering.{nat_cmp}
use Rattle.std.specs.BTreeMap.{is_at}
use Rattle.std.specs.Map.{lookup}
use Rattle.std.specs.Cmp.{eq_by_cmp_equiv}
use Rattle.std.specs.FinMap.{find, get, insert, from_entries, get-from_entries, get-insert, same_map, nat_cmp-IsAntisymmetric}
use Rattle.std.proofs.lemmas.Cmp.{nat_cmp_total}
use Rattle.std.proofs.lemmas.Map.Lookups.{exact_unsigned}
use Rattle.std.proofs.lemmas.Map.Views.{Contains-from_lookup}
use Rattle.list_lemmas.proofs.Keys.{equal_from_is_eq}
use Rattle.txn.specs.declared.transactions.TxnId.{TxnId}
use Rattle.order_check.specs.Rules.{IsBelowMark, AreBelowMarks}

-- what the first entry of the key has
abbrev pub entry_at : {X : Type 0} → List (ℕ × X) → ℕ → Option X
entry_at entries key = lookup (is_at (nat_cmp key)) entries

find-entry_at : {X : Type 0} (es : List (ℕ × X)) (q : ℕ) → find nat_cmp q es ≡ entry_at es q
find-entry_at [] q = refl
find-entry_at (e ∷ es) q = ap (cond (is_at (nat_cmp q) e.0) (Some e.1)) (find-entry_at es q)

-- what the map that the entries make has at a key
pub get-entry_at : {X : Type 0} (es : List (ℕ × X)) (q : ℕ) → get (from_entries {R = nat_cmp} es) q ≡ entry_at es q
get-entry_at es q = get-from_entries nat_cmp_total es q ∙ find-entry_at es q

-- entries that differ at one key make maps that differ there
pub one_put : {X : Type 0} (es fs : List (ℕ × X)) (key : ℕ) (x : X) → ((q : ℕ) → entry_at fs q ≡ cond (is_at (nat_cmp key) q) (Some x) (entry_at es q)) → from_entries {R = nat_cmp} fs ≡ insert (from_entries es) key x
one_put es fs key x h = same_map nat_cmp_total nat_cmp-IsAntisymmetric _ _ (λ q.
    get-entry_at fs q ∙ h q ∙ ap (λ b. cond b (Some x) (entry_at es q)) ((eq_by_cmp_equiv nat_cmp_total).symm key q)
    ∙ sym (get-insert nat_cmp_total (from_entries es) key x q ∙ ap (cond (is_at (nat_cmp q) key) (Some x)) (get-entry_at es q)))

pub same_key : (x y : ℕ) → is_at (nat_cmp x) y ≡ true → x ≡ y
same_key x y e = exact_unsigned x y (equal_from_is_eq (nat_cmp x y) e)

-- where each entry's writer is below its mark, so is each key's
pub below_from_entries : (marks : List ℕ) (es : List (ℕ × TxnId)) → All (λ e. IsBelowMark marks e.1) es → AreBelowMarks marks (from_entries {R = nat_cmp} es)
below_from_entries marks es all key writer got =
    let (k, within, is) = Contains-from_lookup {eq = λ x. is_at (nat_cmp x)} same_key key writer es (sym (get-entry_at es key) ∙ got) in
    subst (λ (e : ℕ × TxnId). IsBelowMark marks e.1) is (all k (key, writer) within)
