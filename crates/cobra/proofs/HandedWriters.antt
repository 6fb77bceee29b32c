-- Last writers that were handed over, from a place on.
use Rattle.std.proofs.Common.{◌≡◌, ℕ, zero, suc, ◌+◌, ◌-◌, ◌<◌, ◌≤◌, Bool, true, false, List, [], ◌∷◌, length, drop, get_or, Option, Some, None, is_some, refl, sym, ap, subst, ◌∙◌, arith}
use Rattle.std.specs.Ordering.{nat_cmp}
use Rattle.std.specs.FinMap as map
use Rattle.std.specs.FinMap.{FinMap, get-from_entries}
use Rattle.std.specs.FinMap.Entries.{find}
use Rattle.std.proofs.lemmas.Cmp.{nat_cmp_total}
use Rattle.std.proofs.lemmas.List.{drop_more}
use Rattle.txn.specs.declared.transactions.TxnId.{TxnId}
use Rattle.cobra.specs.HandOver.{KeysDiffer}

-- none of all, none of the last
pub keys_drop : (es : List (ℕ × TxnId)) (i : ℕ) → KeysDiffer es → KeysDiffer (drop i es)
keys_drop es zero keys = keys
keys_drop [] (suc i) keys = keys
keys_drop (e ∷ es) (suc i) keys = keys_drop es i keys.1

-- one entry more, whose key isn't there
pub more_keys : (es : List (ℕ × TxnId)) (left : ℕ) (d : ℕ × TxnId) (m : FinMap nat_cmp TxnId) → left < length es → m ≡ map.from_entries (drop (left + 1) es) → KeysDiffer (drop (left + 1) es) → map.get m (get_or es left d).0 ≡ None → KeysDiffer (drop left es)
more_keys es left d m within is keys none =
    let absent : find nat_cmp (get_or es left d).0 (drop (left + 1) es) ≡ None =
    sym (get-from_entries nat_cmp_total (drop (left + 1) es) (get_or es left d).0) ∙ ap (λ (n : FinMap nat_cmp TxnId). map.get n (get_or es left d).0) (sym is) ∙ none in
    subst KeysDiffer (sym (drop_more es left d within)) (absent, keys)

pub more_writers : (es : List (ℕ × TxnId)) (left : ℕ) (d : ℕ × TxnId) (m : FinMap nat_cmp TxnId) → left < length es → m ≡ map.from_entries (drop (left + 1) es) → map.insert m (get_or es left d).0 (get_or es left d).1 ≡ map.from_entries (drop left es)
more_writers es left d m within is =
    ap (λ (n : FinMap nat_cmp TxnId). map.insert n (get_or es left d).0 (get_or es left d).1) is ∙ ap (λ (fs : List (ℕ × TxnId)). map.from_entries fs) (sym (drop_more es left d within))

-- one entry more, whose key is there
pub same_key : (es : List (ℕ × TxnId)) (left : ℕ) (d : ℕ × TxnId) (m : FinMap nat_cmp TxnId) (writer : TxnId) → left < length es → m ≡ map.from_entries (drop (left + 1) es) → map.get m (get_or es left d).0 ≡ Some writer → ¬ KeysDiffer es
same_key es left d m writer within is found keys =
    let some : find nat_cmp (get_or es left d).0 (drop (left + 1) es) ≡ Some writer =
    sym (get-from_entries nat_cmp_total (drop (left + 1) es) (get_or es left d).0) ∙ ap (λ (n : FinMap nat_cmp TxnId). map.get n (get_or es left d).0) (sym is) ∙ found in
    let here : KeysDiffer (get_or es left d ∷ drop (left + 1) es) = subst KeysDiffer (drop_more es left d within) (keys_drop es left keys) in
    let no : None ≡ Some writer = sym here.0 ∙ some in cc

-- the same of a place and the one before it
before_it : (left : ℕ) → 0 < left → left - 1 + 1 ≡ left
before_it left some = omega (arith, some)

there_before : (es : List (ℕ × TxnId)) (left : ℕ) → 0 < left → left ≤ length es → left - 1 < length es
there_before es left some within = omega (arith, some, within)

pub keys_before : (es : List (ℕ × TxnId)) (left : ℕ) (d : ℕ × TxnId) (m : FinMap nat_cmp TxnId) → 0 < left → left ≤ length es → m ≡ map.from_entries (drop left es) → KeysDiffer (drop left es) → map.get m (get_or es (left - 1) d).0 ≡ None → KeysDiffer (drop (left - 1) es)
keys_before es left d m some within is keys none =
    more_keys es (left - 1) d m (there_before es left some within) (subst (λ (n : ℕ). m ≡ map.from_entries (drop n es)) (sym (before_it left some)) is) (subst (λ (n : ℕ). KeysDiffer (drop n es)) (sym (before_it left some)) keys) none

pub writers_before : (es : List (ℕ × TxnId)) (left : ℕ) (d : ℕ × TxnId) (m : FinMap nat_cmp TxnId) → 0 < left → left ≤ length es → m ≡ map.from_entries (drop left es) → map.insert m (get_or es (left - 1) d).0 (get_or es (left - 1) d).1 ≡ map.from_entries (drop (left - 1) es)
writers_before es left d m some within is =
    more_writers es (left - 1) d m (there_before es left some within) (subst (λ (n : ℕ). m ≡ map.from_entries (drop n es)) (sym (before_it left some)) is)

-- whether the key before it is there already
pub there_twice : (es : List (ℕ × TxnId)) (left : ℕ) (d : ℕ × TxnId) (m : FinMap nat_cmp TxnId) (asked : Option TxnId) (found : Bool) → asked ≡ map.get m (get_or es (left - 1) d).0 → found ≡ is_some asked → found ≡ true → 0 < left → left ≤ length es → m ≡ map.from_entries (drop left es) → ¬ KeysDiffer es
there_twice es left d m (Some writer) found has told there some within is =
    same_key es (left - 1) d m writer (there_before es left some within) (subst (λ (n : ℕ). m ≡ map.from_entries (drop n es)) (sym (before_it left some)) is) (sym has)
there_twice es left d m None found has told there some within is = let no : true ≡ false = sym there ∙ told in cc

pub not_there : (asked : Option TxnId) (found : Bool) → found ≡ is_some asked → found ≡ false → asked ≡ None
not_there None found told there = refl
not_there (Some writer) found told there = let no : false ≡ true = sym there ∙ told in cc
