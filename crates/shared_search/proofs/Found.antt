-- Outcomes among those that workers brought, in a table, and in order.
use Rattle.std.proofs.Common.{◌≡◌, ℕ, zero, suc, ◌+◌, ◌<◌, ◌≤◌, refl, sym, ap, subst, ◌∙◌, List, [], ◌∷◌, ◌++◌, map, length, set, get_or, slice_get, arith, cond, Bool, true, false, eqb, eq-eqb, ne_eqb, Option, Some, None, IsSome, All, length-set, get_or-set_same, get_or-set_other, zero-add}
use Rattle.std.specs.Prelude.{min, if◌then◌else◌}
use Rattle.std.proofs.lemmas.Bool.{eqb-true}
use Rattle.std.proofs.lemmas.List.Elements.{All-head, All-tail}
use mathlib.Core.Logic.{dite}
use native.Mathlib.Decide.{dec_le, ℕ_discrete}
use Rattle.list_lemmas.specs.Counts.{times}
use Rattle.txn.specs.declared.transactions.TxnId.{TxnId}
use Rattle.refutation.specs.declared.trees.Tree.{Tree}
use Rattle.polygraph.specs.declared.solving.Cube.{Cube}
use Rattle.polygraph.specs.declared.solving.Cube.TheVariants.{Yes, No, Spent}
use Rattle.shared_search.specs.Counts.{lowest, nothing}
use Rattle.shared_search.specs.Worked.{is_yes, numbers, yes_numbers, later, found_in, IsTable}
use Rattle.shared_search.specs.Picks.{or_yes, first_yes, or_spent, has_spent, and_tree, trees}
use Rattle.shared_search.proofs.Totals.{same_time}

-- numbers

pub numbers-append : (es fs : List (ℕ × Cube)) → numbers (es ++ fs) ≡ numbers es ++ numbers fs
numbers-append [] fs = refl
numbers-append (e ∷ es) fs = ap (λ (l : List ℕ). e.0 ∷ l) (numbers-append es fs)

cond_append : (b : Bool) (n : ℕ) (xs ys zs : List ℕ) → zs ≡ xs ++ ys → (if b then n ∷ zs else zs) ≡ (if b then n ∷ xs else xs) ++ ys
cond_append true n xs ys zs e = ap (λ (l : List ℕ). n ∷ l) e
cond_append false n xs ys zs e = e

pub yes-append : (es fs : List (ℕ × Cube)) → yes_numbers (es ++ fs) ≡ yes_numbers es ++ yes_numbers fs
yes-append [] fs = refl
yes-append (e ∷ es) fs = cond_append (is_yes e.1) e.0 (yes_numbers es) (yes_numbers fs) (yes_numbers (es ++ fs)) (yes-append es fs)

under_step : (b : Bool) (y n : ℕ) (xs ys : List ℕ) → times y xs ≤ times y ys → times y (if b then n ∷ xs else xs) ≤ times y (n ∷ ys)
under_step true y n xs ys h = omega arith
under_step false y n xs ys h = omega arith

pub yes_under : (y : ℕ) (es : List (ℕ × Cube)) → times y (yes_numbers es) ≤ times y (numbers es)
yes_under y [] = omega arith
yes_under y (e ∷ es) = under_step (is_yes e.1) y e.0 (yes_numbers es) (numbers es) (yes_under y es)

pub number_at : (es : List (ℕ × Cube)) (k : ℕ) (d : ℕ × Cube) → k < length es → 0 < times (get_or es k d).0 (numbers es)
number_at [] k d h = absurd (omega (arith, h))
number_at (e ∷ es) zero d h = let s = same_time e.0 e.0 refl in omega arith
number_at (e ∷ es) (suc k) d h = let r = number_at es k d (omega (arith, h)) in omega arith

-- the outcome of a cube

some_here : (b : Bool) (n : ℕ) (o : Option Cube) (c : Cube) → (0 < n → IsSome o) → 0 < cond b 1 0 + n → IsSome (later o (if b then Some c else None))
some_here true n (Some d) c ih h = refl
some_here true n None c ih h = refl
some_here false n (Some d) c ih h = refl
some_here false n None c ih h = ih (omega (arith, h))

pub found_some : (x : ℕ) (es : List (ℕ × Cube)) → 0 < times x (numbers es) → IsSome (found_in x es)
found_some x [] h = absurd (omega (arith, h))
found_some x (e ∷ es) h = some_here (eqb e.0 x) (times x (numbers es)) (found_in x es) e.1 (λ more. found_some x es more) h

none_here : (b : Bool) (n : ℕ) (o : Option Cube) (c : Cube) → (n ≡ 0 → o ≡ None) → cond b 1 0 + n ≡ 0 → later o (if b then Some c else None) ≡ None
none_here true n o c ih h = absurd (omega (arith, h))
none_here false n o c ih h = ap (λ (p : Option Cube). later p None) (ih (omega (arith, h)))

pub found_none : (x : ℕ) (es : List (ℕ × Cube)) → times x (numbers es) ≡ 0 → found_in x es ≡ None
found_none x [] h = refl
found_none x (e ∷ es) h = none_here (eqb e.0 x) (times x (numbers es)) (found_in x es) e.1 (λ more. found_none x es more) h

may_here : (may : ℕ → Cube → Type 0) (x n : ℕ) (d c : Cube) (b : Bool) (o : Option Cube) → may n d → eqb n x ≡ b → (o ≡ Some c → may x c) → later o (if b then Some d else None) ≡ Some c → may x c
may_here may x n d c b (Some other) ok at ih is = ih is
may_here may x n d c true None ok at ih is = let same : d ≡ c = cc in subst (λ (y : ℕ). may y c) (eqb-true n x at) (subst (λ (k : Cube). may n k) same ok)
may_here may x n d c false None ok at ih is = absurd cc

pub found_may : (may : ℕ → Cube → Type 0) (x : ℕ) (es : List (ℕ × Cube)) (c : Cube) → All (λ e. may e.0 e.1) es → found_in x es ≡ Some c → may x c
found_may may x [] c all is = absurd cc
found_may may x (e ∷ es) c all is = may_here may x e.0 e.1 c (eqb e.0 x) (found_in x es) (All-head (λ (e : ℕ × Cube). may e.0 e.1) e es all) refl
    (λ more. found_may may x es c (All-tail (λ (e : ℕ × Cube). may e.0 e.1) e es all) more) is

yes_step : (y n : ℕ) (c : Cube) (es : List (ℕ × Cube)) (b said : Bool) → eqb n y ≡ b → is_yes c ≡ said → cond b 1 0 + times y (numbers es) ≤ 1 → 0 < times y (if said then n ∷ yes_numbers es else yes_numbers es)
    → (times y (numbers es) ≤ 1 → 0 < times y (yes_numbers es) → (d : Cube) × (found_in y es ≡ Some d) × (is_yes d ≡ true))
    → (d : Cube) × (later (found_in y es) (if b then Some c else None) ≡ Some d) × (is_yes d ≡ true)
yes_step y n c es true true at is once had ih = (c, ap (λ (o : Option Cube). later o (Some c)) (found_none y es (omega (arith, once))), is)
yes_step y n c es true false at is once had ih = absurd (let u = yes_under y es in omega (arith, once, had, u))
yes_step y n c es false true at is once had ih =
    let k : times y (n ∷ yes_numbers es) ≡ times y (yes_numbers es) = ap (λ (b : Bool). cond b 1 0 + times y (yes_numbers es)) at ∙ zero-add (times y (yes_numbers es)) in
    let r = ih (omega (arith, once)) (omega (arith, had, k)) in
    (r.0, ap (λ (o : Option Cube). later o None) r.1, r.2)
yes_step y n c es false false at is once had ih =
    let r = ih (omega (arith, once)) had in
    (r.0, ap (λ (o : Option Cube). later o None) r.1, r.2)

-- a cube that is a yes among these, and stands there once
pub found_yes : (y : ℕ) (es : List (ℕ × Cube)) → times y (numbers es) ≤ 1 → 0 < times y (yes_numbers es) → (c : Cube) × (found_in y es ≡ Some c) × (is_yes c ≡ true)
found_yes y [] once had = absurd (omega (arith, had))
found_yes y (e ∷ es) once had = yes_step y e.0 e.1 es (eqb e.0 y) (is_yes e.1) refl refl once had (λ o h. found_yes y es o h)

later_cond : (b : Bool) (c : Cube) (o p : Option Cube) → later (cond b (Some c) o) p ≡ cond b (Some c) (later o p)
later_cond true c o p = refl
later_cond false c o p = refl

last_alone : (b : Bool) (c : Cube) → later None (if b then Some c else None) ≡ cond b (Some c) None
last_alone true c = refl
last_alone false c = refl

pub found-snoc : (x : ℕ) (es : List (ℕ × Cube)) (e : ℕ × Cube) → found_in x (es ++ e ∷ []) ≡ cond (eqb e.0 x) (Some e.1) (found_in x es)
found-snoc x [] e = last_alone (eqb e.0 x) e.1
found-snoc x (f ∷ es) e =
    ap (λ (o : Option Cube). later o (if eqb f.0 x then Some f.1 else None)) (found-snoc x es e) ∙ later_cond (eqb e.0 x) e.1 (found_in x es) (if eqb f.0 x then Some f.1 else None)

-- a table

pub table_more : (count : ℕ) (es : List (ℕ × Cube)) (table : List (Option Cube)) (e : ℕ × Cube) → IsTable count es table → e.0 < count → IsTable count (es ++ e ∷ []) (set table e.0 (Some e.1))
table_more count es table e (long, each) below = (
  length-set table e.0 (Some e.1) ∙ long,
  λ x within. dite (ℕ_discrete x e.0)
      (λ same.
      let at : get_or (set table e.0 (Some e.1)) e.0 None ≡ Some e.1 = get_or-set_same table e.0 (Some e.1) None (omega (arith, below, long)) in
      ap (λ (y : ℕ). get_or (set table e.0 (Some e.1)) y None) same ∙ at ∙ sym (found-snoc x es e ∙ ap (λ (b : Bool). cond b (Some e.1) (found_in x es)) (eq-eqb e.0 x (sym same))))
      (λ other.
      get_or-set_other table e.0 x (Some e.1) None other ∙ each x within ∙ sym (found-snoc x es e ∙ ap (λ (b : Bool). cond b (Some e.1) (found_in x es)) (ne_eqb e.0 x (λ q. other (sym q))))),
)

-- outcomes in order

yes_is_first : (o : Cube) (others : Option (List TxnId)) → is_yes o ≡ true → or_yes o others ≡ None → ⊥
yes_is_first (Yes order) others is none = cc
yes_is_first (No tree) others is none = cc
yes_is_first Spent others is none = cc

others_none : (o : Cube) (others : Option (List TxnId)) → or_yes o others ≡ None → others ≡ None
others_none (Yes order) others none = absurd cc
others_none (No tree) others none = none
others_none Spent others none = none

pub first_there : (outs : List Cube) (y : ℕ) (c : Cube) → slice_get outs y ≡ Some c → is_yes c ≡ true → first_yes outs ≡ None → ⊥
first_there [] y c at is none = cc
first_there (o ∷ outs) zero c at is none = let same : o ≡ c = cc in yes_is_first o (first_yes outs) (ap is_yes same ∙ is) none
first_there (o ∷ outs) (suc y) c at is none = first_there outs y c at is (others_none o (first_yes outs) none)

pub got_in : (outs : List Cube) (i : ℕ) (c : Cube) → slice_get outs i ≡ Some c → i < length outs
got_in [] i c at = absurd cc
got_in (o ∷ outs) zero c at = omega arith
got_in (o ∷ outs) (suc i) c at = let r = got_in outs i c at in omega arith

pub at_out : (outs : List Cube) (rest : List (Option Cube)) (k : ℕ) → k < length outs → (c : Cube) × (slice_get outs k ≡ Some c) × (get_or (map Some outs ++ rest) k None ≡ Some c)
at_out [] rest k h = absurd (omega (arith, h))
at_out (o ∷ outs) rest zero h = (o, refl, refl)
at_out (o ∷ outs) rest (suc k) h = at_out outs rest k (omega (arith, h))

pub at_end : (outs : List Cube) (o : Option Cube) (rest : List (Option Cube)) → (get_or (map Some outs ++ o ∷ rest) (length outs) None ≡ o) × (length outs < length (map Some outs ++ o ∷ rest))
at_end [] o rest = (refl, omega arith)
at_end (c ∷ outs) o rest = let r = at_end outs o rest in (r.0, let below = r.1 in omega (arith, below))

pub length-outs : (outs : List Cube) (rest : List (Option Cube)) → length (map Some outs ++ rest) ≡ length outs + length rest
length-outs [] rest = sym (zero-add (length rest))
length-outs (c ∷ outs) rest = let r = length-outs outs rest in omega (arith, r)

pub yes-snoc : (outs : List Cube) (c : Cube) → first_yes outs ≡ None → first_yes (outs ++ c ∷ []) ≡ or_yes c None
yes-snoc [] c none = refl
yes-snoc (Yes order ∷ outs) c none = absurd cc
yes-snoc (No tree ∷ outs) c none = yes-snoc outs c none
yes-snoc (Spent ∷ outs) c none = yes-snoc outs c none

spent_true : (c : Cube) → or_spent c true ≡ true
spent_true (Yes order) = refl
spent_true (No tree) = refl
spent_true Spent = refl

pub spent-snoc : (outs : List Cube) (c : Cube) → has_spent (outs ++ c ∷ []) ≡ or_spent c (has_spent outs)
spent-snoc [] c = refl
spent-snoc (Yes order ∷ outs) c = spent-snoc outs c
spent-snoc (No tree ∷ outs) c = spent-snoc outs c
spent-snoc (Spent ∷ outs) c = sym (spent_true c)

pub trees-snoc : (outs : List Cube) (c : Cube) → trees (outs ++ c ∷ []) ≡ trees outs ++ and_tree c []
trees-snoc [] c = refl
trees-snoc (Yes order ∷ outs) c = trees-snoc outs c
trees-snoc (No tree ∷ outs) c = ap (λ (l : List Tree). tree ∷ l) (trees-snoc outs c)
trees-snoc (Spent ∷ outs) c = trees-snoc outs c

pub map-snoc : (outs : List Cube) (c : Cube) (rest : List (Option Cube)) → map Some outs ++ Some c ∷ rest ≡ map Some (outs ++ c ∷ []) ++ rest
map-snoc [] c rest = refl
map-snoc (o ∷ outs) c rest = ap (λ (l : List (Option Cube)). Some o ∷ l) (map-snoc outs c rest)

pub trees_count : (outs : List Cube) → first_yes outs ≡ None → has_spent outs ≡ false → length (trees outs) ≡ length outs
trees_count [] none fine = refl
trees_count (Yes order ∷ outs) none fine = absurd cc
trees_count (No tree ∷ outs) none fine = ap suc (trees_count outs none fine)
trees_count (Spent ∷ outs) none fine = absurd cc

pub lowest_there : (xs : List ℕ) → lowest xs < nothing → 0 < times (lowest xs) xs
lowest_there [] h = absurd (omega (arith, h))
lowest_there (x ∷ xs) h = dite (dec_le x (lowest xs))
    (λ low. let e : min x (lowest xs) ≡ x = omega arith in subst (λ (y : ℕ). 0 < times y (x ∷ xs)) (sym e) (let s = same_time x x refl in omega (arith, s)))
    (λ high. let e : min x (lowest xs) ≡ lowest xs = omega arith in let r = lowest_there xs (omega (arith, h, high)) in subst (λ (y : ℕ). 0 < times y (x ∷ xs)) (sym e) (omega (arith, r)))
