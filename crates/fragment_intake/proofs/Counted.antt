-- Counts of what was taken of each collector, as more is taken.
use Rattle.std.proofs.Common.{◌≡◌, ℕ, ◌+◌, ◌<◌, sym, ap, subst, ◌∙◌, List, [], ◌∷◌, ◌++◌, length, length-append, set, get_or, length-set, get_or-set_same, get_or-set_other, arith, append-nil, append_assoc}
use mathlib.Core.Logic.{dite}
use native.Mathlib.Decide.{ℕ_discrete}
use Rattle.fragment_intake.specs.declared.rules.Parcel.{Parcel}
use Rattle.fragment_intake.specs.declared.rules.View.{View}
use Rattle.fragment_intake.specs.Collectors.{Counts}
use Rattle.fragment_intake.specs.Delivers.{of, seen, Got}
use Rattle.fragment_intake.proofs.Lists.{of-append, of-own, of-other}

pub counts_more : (counts : List ℕ) (xs : List Parcel) (x : Parcel) → Counts counts xs → x.collector < 4 → Counts (set counts x.collector (get_or counts x.collector 0 + 1)) (xs ++ x ∷ [])
counts_more counts xs x (four, each) within = (
  length-set counts x.collector (get_or counts x.collector 0 + 1) ∙ four,
  λ p below. dite (ℕ_discrete p x.collector)
      (λ same.
      let one : of p (x ∷ []) ≡ x ∷ [] = of-own p x [] (sym same) in
      let long : length (of p (xs ++ x ∷ [])) ≡ length (of p xs) + 1 = ap length (of-append p xs (x ∷ []) ∙ ap (λ l. of p xs ++ l) one) ∙ length-append (of p xs) (x ∷ []) in
      let e = each p below in
      let at : get_or (set counts x.collector (get_or counts x.collector 0 + 1)) x.collector 0 ≡ get_or counts x.collector 0 + 1 = get_or-set_same counts x.collector (get_or counts x.collector 0 + 1) 0 (omega (arith, within, four)) in
      subst (λ q. get_or (set counts x.collector (get_or counts x.collector 0 + 1)) q 0 ≡ get_or counts q 0 + 1) (sym same) at ∙ ap (λ n. n + 1) e ∙ sym long)
      (λ other.
      let none : of p (x ∷ []) ≡ [] = of-other p x [] (λ e. other (sym e)) in
      let same : of p (xs ++ x ∷ []) ≡ of p xs = of-append p xs (x ∷ []) ∙ ap (λ l. of p xs ++ l) none ∙ append-nil (of p xs) in
      get_or-set_other counts x.collector p (get_or counts x.collector 0 + 1) 0 other ∙ each p below ∙ sym (ap length same)),
)

-- after a pop
pub counts_after : (old new : List ℕ) (v w : View) (x : Parcel) (base left : List Parcel) → v.got ≡ base ++ left → Counts old left → Got v x w → new ≡ set old x.collector (get_or old x.collector 0 + 1)
    → (w.got ≡ base ++ (left ++ x ∷ [])) × Counts new (left ++ x ∷ [])
counts_after old new v w x base left known counts got is =
    let more : w.got ≡ v.got ++ x ∷ [] = ap (λ (u : View). u.got) got.0 in
    (more ∙ ap (λ l. l ++ x ∷ []) known ∙ append_assoc base left (x ∷ []), subst (λ c. Counts c (left ++ x ∷ [])) (sym is) (counts_more old left x counts got.1))

-- the auditor's pass stays one after a pop
pub audits_still : (v w : View) (x : Parcel) → v ≡ seen [] 1 v.got → Got v x w → w ≡ seen [] 1 w.got
audits_still v w x known got =
    let mine : v.mine ≡ [] = ap (λ (u : View). u.mine) known in
    let audits : v.audits ≡ 1 = ap (λ (u : View). u.audits) known in
    let more : w.got ≡ v.got ++ x ∷ [] = ap (λ (u : View). u.got) got.0 in
    got.0 ∙ (λ i. seen (mine i) (audits i) (sym more i))
