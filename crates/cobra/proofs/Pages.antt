-- Entries told page by page, each page from behind the last key of the one before.
use Rattle.std.proofs.Common.{◌≡◌, ℕ, zero, suc, ◌+◌, ◌<◌, ◌≤◌, Bool, true, false, cond, T, List, [], ◌∷◌, ◌++◌, length, take, drop, refl, sym, ap, subst, ◌∙◌, arith, ⊎_elim}
use Rattle.std.specs.Prelude.{filter, nat_lt, nat_le}
use Rattle.std.specs.Ordering.{nat_cmp, is_lt}
use Rattle.std.specs.declared.cmp.Ordering.TheVariants.{Less, Equal, Greater}
use Rattle.std.specs.FinMap.Entries.{below_all, is_sorted}
use Rattle.std.proofs.lemmas.Bool.{leb-true, le-leb}
use Rattle.std.proofs.lemmas.Bool.Decides.{leb_tells}
use Rattle.std.proofs.Math.Seq.{take-add}
use Rattle.std.proofs.lemmas.List.{take-append-drop, length-take, take_min}
use Rattle.std.proofs.Math.Facts.{yes_and, and_yes}
use Rattle.cobra.specs.Checkpoints.{IsLast}

-- those whose keys aren't below this one
abbrev pub from_key : {X : Type 0} → ℕ → List (ℕ × X) → List (ℕ × X)
from_key key es = filter (λ entry. nat_le key entry.0) es

less_case : (t u : Bool) → T (is_lt (cond t Less (cond u Equal Greater))) → t ≡ true
less_case true u less = refl
less_case false true less = absurd less
less_case false false less = absurd less

less_lt : (a b : ℕ) → T (is_lt (nat_cmp a b)) → a < b
less_lt a b less = leb-true (suc a) b (less_case (nat_lt a b) _ less)

not_le : (j x : ℕ) → x < j → nat_le j x ≡ false
not_le j x below = ⊎_elim (λ le. absurd (omega (arith, le.1, below))) (λ gt. gt.0) (leb_tells j x)

-- the first is left out
out : {X : Type 0} (j : ℕ) (e : ℕ × X) (es : List (ℕ × X)) → e.0 < j → from_key j (e ∷ es) ≡ from_key j es
out j e es below = ap (λ b. cond b (e ∷ from_key j es) (from_key j es)) (not_le j e.0 below)

-- the first is kept
kept : {X : Type 0} (j : ℕ) (e : ℕ × X) (es : List (ℕ × X)) → j ≤ e.0 → from_key j (e ∷ es) ≡ e ∷ from_key j es
kept j e es above = ap (λ b. cond b (e ∷ from_key j es) (from_key j es)) (le-leb j e.0 above)

-- all are kept
all_from : {X : Type 0} (j k : ℕ) (es : List (ℕ × X)) → j ≤ k + 1 → T (below_all nat_cmp k es) → from_key j es ≡ es
all_from j k [] near below = refl
all_from j k (e ∷ es) near below =
    let above : k < e.0 = less_lt k e.0 (and_yes (is_lt (nat_cmp k e.0)) (below_all nat_cmp k es) below).0 in
    kept j e es (omega (arith, near, above)) ∙ ap (λ fs. e ∷ fs) (all_from j k es near (and_yes (is_lt (nat_cmp k e.0)) (below_all nat_cmp k es) below).1)

pub from_zero : {X : Type 0} (es : List (ℕ × X)) → from_key 0 es ≡ es
from_zero [] = refl
from_zero (e ∷ es) = kept 0 e es (omega arith) ∙ ap (λ fs. e ∷ fs) (from_zero es)

below_take : {X : Type 0} (k n : ℕ) (es : List (ℕ × X)) → T (below_all nat_cmp k es) → T (below_all nat_cmp k (take n es))
below_take k zero es below = tt
below_take k (suc n) [] below = tt
below_take k (suc n) (e ∷ es) below =
    yes_and (is_lt (nat_cmp k e.0)) (below_all nat_cmp k (take n es)) (and_yes (is_lt (nat_cmp k e.0)) (below_all nat_cmp k es) below).0 (below_take k n es (and_yes (is_lt (nat_cmp k e.0)) (below_all nat_cmp k es) below).1)

last_above : {X : Type 0} (k : ℕ) (es : List (ℕ × X)) (l : ℕ × X) → T (below_all nat_cmp k es) → IsLast es l → k < l.0
last_above k [] l below is = absurd is
last_above {X} k (e ∷ []) l below is = subst (λ (m : ℕ × X). k < m.0) (sym is) (less_lt k e.0 (and_yes (is_lt (nat_cmp k e.0)) true below).0)
last_above k (e ∷ f ∷ more) l below is = last_above k (f ∷ more) l (and_yes (is_lt (nat_cmp k e.0)) (below_all nat_cmp k (f ∷ more)) below).1 is

none_dropped : {X : Type 0} (n : ℕ) (es : List X) → take n es ≡ [] → drop n es ≡ es
none_dropped zero es none = refl
none_dropped (suc n) [] none = refl
none_dropped (suc n) (e ∷ es) none = cc

-- the first of a page, and the rest of it
end_cons : {X : Type 0} (n : ℕ) (y : ℕ × X) (rest : List (ℕ × X)) (l : ℕ × X) (zs : List (ℕ × X)) → take n rest ≡ zs → T (below_all nat_cmp y.0 rest) → IsLast (y ∷ zs) l → (IsLast (take n rest) l → from_key (l.0 + 1) rest ≡ drop n rest) → from_key (l.0 + 1) (y ∷ rest) ≡ drop n rest
end_cons {X} n y rest l [] are below is more =
    let same : l.0 ≡ y.0 = ap (λ (m : ℕ × X). m.0) is in
    out (l.0 + 1) y rest (omega (arith, same)) ∙ all_from (l.0 + 1) y.0 rest (omega (arith, same)) below ∙ sym (none_dropped n rest are)
end_cons {X} n y rest l (z ∷ zs) are below is more =
    let there : IsLast (take n rest) l = subst (λ (ws : List (ℕ × X)). IsLast ws l) (sym are) is in
    let above : y.0 < l.0 = last_above y.0 (take n rest) l (below_take y.0 n rest below) there in
    out (l.0 + 1) y rest (omega (arith, above)) ∙ more there

-- behind the last of the first so many stand the others
page_end : {X : Type 0} (n : ℕ) (ys : List (ℕ × X)) (l : ℕ × X) → T (is_sorted nat_cmp ys) → IsLast (take n ys) l → from_key (l.0 + 1) ys ≡ drop n ys
page_end zero ys l rising is = absurd is
page_end (suc n) [] l rising is = absurd is
page_end (suc n) (y ∷ rest) l rising is =
    end_cons n y rest l (take n rest) refl (and_yes (below_all nat_cmp y.0 rest) (is_sorted nat_cmp rest) rising).0 is (page_end n rest l (and_yes (below_all nat_cmp y.0 rest) (is_sorted nat_cmp rest) rising).1)

from_from : {X : Type 0} (j k : ℕ) (es : List (ℕ × X)) → j ≤ k → from_key k (from_key j es) ≡ from_key k es
from_from j k [] near = refl
from_from j k (e ∷ es) near =
    ⊎_elim (λ le. ap (λ b. from_key k (cond b (e ∷ from_key j es) (from_key j es))) le.0 ∙ ap (λ fs. cond (nat_le k e.0) (e ∷ fs) fs) (from_from j k es near))
    (λ gt. ap (λ b. from_key k (cond b (e ∷ from_key j es) (from_key j es))) gt.0 ∙ from_from j k es near ∙ sym (out k e es (omega (arith, gt.1, near))))
    (leb_tells j e.0)

below_from : {X : Type 0} (k j : ℕ) (es : List (ℕ × X)) → T (below_all nat_cmp k es) → T (below_all nat_cmp k (from_key j es))
below_from k j [] below = tt
below_from {X} k j (e ∷ es) below =
    let rest = below_from k j es (and_yes (is_lt (nat_cmp k e.0)) (below_all nat_cmp k es) below).1 in
    ⊎_elim (λ le. subst (λ (fs : List (ℕ × X)). T (below_all nat_cmp k fs)) (sym (kept j e es le.1)) (yes_and (is_lt (nat_cmp k e.0)) (below_all nat_cmp k (from_key j es)) (and_yes (is_lt (nat_cmp k e.0)) (below_all nat_cmp k es) below).0 rest))
    (λ gt. subst (λ (fs : List (ℕ × X)). T (below_all nat_cmp k fs)) (sym (out j e es gt.1)) rest)
    (leb_tells j e.0)

sorted_from : {X : Type 0} (j : ℕ) (es : List (ℕ × X)) → T (is_sorted nat_cmp es) → T (is_sorted nat_cmp (from_key j es))
sorted_from j [] rising = tt
sorted_from {X} j (e ∷ es) rising =
    let rest = sorted_from j es (and_yes (below_all nat_cmp e.0 es) (is_sorted nat_cmp es) rising).1 in
    ⊎_elim (λ le. subst (λ (fs : List (ℕ × X)). T (is_sorted nat_cmp fs)) (sym (kept j e es le.1)) (yes_and (below_all nat_cmp e.0 (from_key j es)) (is_sorted nat_cmp (from_key j es)) (below_from e.0 j es (and_yes (below_all nat_cmp e.0 es) (is_sorted nat_cmp es) rising).0) rest))
    (λ gt. subst (λ (fs : List (ℕ × X)). T (is_sorted nat_cmp fs)) (sym (out j e es gt.1)) rest)
    (leb_tells j e.0)

last_cons : {X : Type 0} (key m : ℕ) (e : ℕ × X) (fs : List (ℕ × X)) (l : ℕ × X) (zs : List (ℕ × X)) → take m fs ≡ zs → key ≤ e.0 → IsLast (e ∷ zs) l → (IsLast (take m fs) l → key ≤ l.0) → key ≤ l.0
last_cons {X} key m e fs l [] are above is more = subst (λ (d : ℕ × X). key ≤ d.0) (sym is) above
last_cons {X} key m e fs l (z ∷ zs) are above is more = more (subst (λ (ws : List (ℕ × X)). IsLast ws l) (sym are) is)

-- no key that is told is below the one that was asked for
last_from : {X : Type 0} (key n : ℕ) (es : List (ℕ × X)) (l : ℕ × X) → IsLast (take n (from_key key es)) l → key ≤ l.0
last_from key zero es l is = absurd is
last_from key (suc n) [] l is = absurd is
last_from {X} key (suc n) (e ∷ es) l is =
    ⊎_elim (λ le. last_cons key n e (from_key key es) l (take n (from_key key es)) refl le.1 (subst (λ (fs : List (ℕ × X)). IsLast (take (suc n) fs) l) (kept key e es le.1) is) (last_from key n es l))
    (λ gt. last_from key (suc n) es l (subst (λ (fs : List (ℕ × X)). IsLast (take (suc n) fs) l) (out key e es gt.1) is))
    (leb_tells key e.0)

-- those that are told from behind the last key of a page
pub page_rest : {X : Type 0} (es : List (ℕ × X)) (key n : ℕ) (l : ℕ × X) → T (is_sorted nat_cmp es) → IsLast (take n (from_key key es)) l → from_key (l.0 + 1) es ≡ drop n (from_key key es)
page_rest es key n l rising is = sym (from_from key (l.0 + 1) es (omega (arith, last_from key n es l is))) ∙ page_end n (from_key key es) l (sorted_from key es rising) is

-- None are told behind a page whose last key is 0, which is the only one.
alone : {X : Type 0} (n : ℕ) (ys : List (ℕ × X)) (l : ℕ × X) → T (is_sorted nat_cmp ys) → IsLast (take (suc (suc n)) ys) l → l.0 ≡ 0 → drop (suc (suc n)) ys ≡ []
alone n [] l rising is zero_key = refl
alone n (y ∷ []) l rising is zero_key = refl
alone {X} n (y ∷ z ∷ rest) l rising is zero_key =
    let above : y.0 < l.0 = last_above y.0 (take (suc n) (z ∷ rest)) l (below_take y.0 (suc n) (z ∷ rest) (and_yes (below_all nat_cmp y.0 (z ∷ rest)) (is_sorted nat_cmp (z ∷ rest)) rising).0) is in
    absurd (omega (arith, above, zero_key))

pub none_behind_zero : {X : Type 0} (es : List (ℕ × X)) (key n k : ℕ) (l : ℕ × X) → T (is_sorted nat_cmp es) → IsLast (take (suc (suc n)) (from_key key es)) l → l.0 ≡ 0 → from_key (k + 1) es ≡ from_key (l.0 + 1) es
none_behind_zero {X} es key n k l rising is zero_key =
    let none : from_key (l.0 + 1) es ≡ [] = page_rest es key (suc (suc n)) l rising is ∙ alone n (from_key key es) l (sorted_from key es rising) is zero_key in
    sym (from_from (l.0 + 1) (k + 1) es (omega (arith, zero_key))) ∙ ap (λ (fs : List (ℕ × X)). from_key (k + 1) fs) none ∙ sym none

-- A page and those that are told from behind its last key are all that are told.
pub page_and_rest : {X : Type 0} (es : List (ℕ × X)) (key n : ℕ) (l : ℕ × X) → T (is_sorted nat_cmp es) → IsLast (take n (from_key key es)) l → take n (from_key key es) ++ from_key (l.0 + 1) es ≡ from_key key es
page_and_rest {X} es key n l rising is =
    ap (λ (fs : List (ℕ × X)). take n (from_key key es) ++ fs) (page_rest es key n l rising is) ∙ take-append-drop n (from_key key es)

-- nothing of a list is told where it has nothing
pub none_left : {X : Type 0} (n : ℕ) (es : List X) → 0 < n → take n es ≡ [] → es ≡ []
none_left zero es some none = absurd (omega (arith, some))
none_left (suc n) [] some none = refl
none_left (suc n) (e ∷ es) some none = cc

-- so many, and then so many of the others
pub taken_more : {X : Type 0} (j n : ℕ) (xs : List X) → take j xs ++ take n (drop j xs) ≡ take (j + length (take n (drop j xs))) xs
taken_more {X} j n xs =
    let ys : List X = drop j xs in
    sym (take-add j (length (take n ys)) xs ∙ ap (λ zs. take j xs ++ zs) (ap (λ m. take m ys) (length-take n ys) ∙ take_min n ys))

-- all were taken where none is left
pub taken_all : {X : Type 0} (j : ℕ) (xs : List X) → drop j xs ≡ [] → take j xs ≡ xs
taken_all zero xs none = sym none
taken_all (suc j) [] none = refl
taken_all (suc j) (x ∷ xs) none = ap (λ ys. x ∷ ys) (taken_all j xs none)
