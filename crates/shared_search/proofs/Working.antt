-- What a worker has done, as it goes on, and what several have done together.
use Rattle.std.proofs.Common.{◌≡◌, ℕ, ◌+◌, ◌<◌, ◌≤◌, inl, inr, ⊎_elim, refl, sym, ap, subst, ◌∙◌, List, [], ◌∷◌, ◌++◌, arith, Bool, true, false}
use Rattle.std.specs.Prelude.{if◌then◌else◌}
use Rattle.std.proofs.lemmas.List.Elements.{All-push, All-append}
use mathlib.Core.Logic.{dite}
use native.Mathlib.Decide.{dec_lt, ℕ_discrete}
use Rattle.list_lemmas.proofs.Counts.{times-append}
use Rattle.list_lemmas.specs.Counts.{times}
use Rattle.polygraph.specs.declared.solving.Cube.{Cube}
use Rattle.shared_search.specs.declared.words.View.{View}
use Rattle.shared_search.specs.Rule.{claims, sees, both_of}
use Rattle.shared_search.specs.Worked.{is_yes, numbers, yes_numbers, Worked, told}
use Rattle.shared_search.proofs.Totals.{same_time, other_time}
use Rattle.shared_search.proofs.Found.{numbers-append, yes-append}

numbers_more : (x : ℕ) (es fs : List (ℕ × Cube)) → times x (numbers (es ++ fs)) ≡ times x (numbers es) + times x (numbers fs)
numbers_more x es fs = ap (times x) (numbers-append es fs) ∙ times-append x (numbers es) (numbers fs)

yes_more : (x : ℕ) (es fs : List (ℕ × Cube)) → times x (yes_numbers (es ++ fs)) ≡ times x (yes_numbers es) + times x (yes_numbers fs)
yes_more x es fs = ap (times x) (yes-append es fs) ∙ times-append x (yes_numbers es) (yes_numbers fs)

skips : (may : ℕ → Cube → Type 0) (count : ℕ) (u : View) (es : List (ℕ × Cube)) (i n : ℕ) → Worked may count 1 u es → n < i → n ≤ u.least → Worked may count 1 (sees (claims u i) n) es
skips may count u es i n w below low = record {
  count_is = w.count_is;
  parts_are = w.parts_are;
  allowed = w.allowed;
  answered = λ x h.
      let a = times-append x u.claimed (i ∷ []) in
      dite (ℕ_discrete x i) (λ same. inr (omega arith))
      (λ other. let o = other_time x i other in ⊎_elim (λ (y : 0 < times x (numbers es)). inl y) (λ (y : u.least < x). inr (omega arith)) (w.answered x (omega (arith, h, a, o))));
  once = λ x. let a = times-append x u.claimed (i ∷ []) in let o = w.once x in omega arith;
  inside = λ x. let a = times-append x u.claimed (i ∷ []) in let o = w.inside x in omega arith;
  yes = w.yes;
}

adds : (may : ℕ → Cube → Type 0) (count : ℕ) (u v : View) (es : List (ℕ × Cube)) (i : ℕ) (c : Cube) → Worked may count 1 u es → may i c → v.cubes ≡ u.cubes → v.parts ≡ u.parts → v.claimed ≡ u.claimed ++ i ∷ [] → v.done ≡ u.done ++ i ∷ []
    → v.least ≤ u.least → ((x : ℕ) → times x v.found ≤ times x u.found + times x (yes_numbers ((i, c) ∷ []))) → Worked may count 1 v (es ++ (i, c) ∷ [])
adds may count u v es i c w ok same parts claimed done low tells = record {
  count_is = same ∙ w.count_is;
  parts_are = parts ∙ w.parts_are;
  allowed = All-push (λ (e : ℕ × Cube). may e.0 e.1) es (i, c) w.allowed ok;
  answered = λ x h.
      let a = times-append x u.claimed (i ∷ []) in
      let k : times x v.claimed ≡ times x (u.claimed ++ i ∷ []) = ap (times x) claimed in
      let n : times x (numbers (es ++ (i, c) ∷ [])) ≡ times x (numbers es) + times x (i ∷ []) = numbers_more x es ((i, c) ∷ []) in
      dite (ℕ_discrete x i) (λ e. inl (let o = same_time x i e in omega arith))
      (λ ne. let o = other_time x i ne in ⊎_elim (λ (y : 0 < times x (numbers es)). inl (omega arith)) (λ (y : u.least < x). inr (omega arith)) (w.answered x (omega (arith, h, a, k, o))));
  once = λ x.
      let a = times-append x u.claimed (i ∷ []) in
      let k : times x v.claimed ≡ times x (u.claimed ++ i ∷ []) = ap (times x) claimed in
      let n : times x (numbers (es ++ (i, c) ∷ [])) ≡ times x (numbers es) + times x (i ∷ []) = numbers_more x es ((i, c) ∷ []) in
      let o = w.once x in
      omega arith;
  inside = λ x.
      let a = times-append x u.claimed (i ∷ []) in
      let k : times x v.claimed ≡ times x (u.claimed ++ i ∷ []) = ap (times x) claimed in
      let b = times-append x u.done (i ∷ []) in
      let d : times x v.done ≡ times x (u.done ++ i ∷ []) = ap (times x) done in
      let o = w.inside x in
      omega arith;
  yes = λ x. let y = tells x in let b = yes_more x es ((i, c) ∷ []) in let o = w.yes x in omega (arith, y, b, o);
}

told_adds : (may : ℕ → Cube → Type 0) (count : ℕ) (u : View) (es : List (ℕ × Cube)) (i n : ℕ) (c : Cube) (b : Bool) → is_yes c ≡ b → Worked may count 1 u es → may i c → n ≤ u.least → Worked may count 1 (told (sees (claims u i) n) i b) (es ++ (i, c) ∷ [])
told_adds may count u es i n c true is w ok low = adds may count u (told (sees (claims u i) n) i true) es i c w ok refl refl refl refl (omega arith)
    (λ x. let y : yes_numbers ((i, c) ∷ []) ≡ i ∷ [] = ap (λ (b : Bool). if b then i ∷ [] else []) is in let t : times x (yes_numbers ((i, c) ∷ [])) ≡ times x (i ∷ []) = ap (times x) y in let a = times-append x u.found (i ∷ []) in omega (arith, t, a))
told_adds may count u es i n c false is w ok low = adds may count u (told (sees (claims u i) n) i false) es i c w ok refl refl refl refl low (λ x. omega arith)

-- a cube is left out, for a lower one has a yes
pub skipped : (may : ℕ → Cube → Type 0) (count : ℕ) (v v' u : View) (es : List (ℕ × Cube)) (i n : ℕ) → v ≡ claims u i → Worked may count 1 u es → v' ≡ sees v n → n ≤ v.least → n < i → Worked may count 1 v' es
skipped may count v v' u es i n is w is' low below =
    let e : v' ≡ sees (claims u i) n = is' ∙ ap (λ (y : View). sees y n) is in
    let l : v.least ≡ u.least = ap (λ (y : View). y.least) is in
    subst (λ (y : View). Worked may count 1 y es) (sym e) (skips may count u es i n w below (omega (arith, low, l)))

-- a cube that was just claimed isn't answered yet
pub undone : (may : ℕ → Cube → Type 0) (count : ℕ) (v v' u : View) (es : List (ℕ × Cube)) (i n : ℕ) → v ≡ claims u i → Worked may count 1 u es → v' ≡ sees v n → times i v'.done < times i v'.claimed
undone may count v v' u es i n is w is' =
    let e : v' ≡ sees (claims u i) n = is' ∙ ap (λ (y : View). sees y n) is in
    let a = times-append i u.claimed (i ∷ []) in
    let s = same_time i i refl in
    let o = w.inside i in
    subst (λ (y : View). times i y.done < times i y.claimed) (sym e) (omega (arith, a, s, o))

-- a cube is searched
pub searched : (may : ℕ → Cube → Type 0) (count : ℕ) (v v' v'' u : View) (es es' : List (ℕ × Cube)) (i n : ℕ) (c : Cube) → v ≡ claims u i → Worked may count 1 u es → v' ≡ sees v n → n ≤ v.least → may i c → v'' ≡ told v' i (is_yes c) → es' ≡ es ++ (i, c) ∷ []
    → Worked may count 1 v'' es'
searched may count v v' v'' u es es' i n c is w is' low ok is'' more =
    let e : v'' ≡ told (sees (claims u i) n) i (is_yes c) = is'' ∙ ap (λ (y : View). told y i (is_yes c)) (is' ∙ ap (λ (y : View). sees y n) is) in
    let l : v.least ≡ u.least = ap (λ (y : View). y.least) is in
    let done = told_adds may count u es i n c (is_yes c) refl w ok (omega (arith, low, l)) in
    subst (λ (y : View). Worked may count 1 y es') (sym e) (subst (λ (l : List (ℕ × Cube)). Worked may count 1 (told (sees (claims u i) n) i (is_yes c)) l) (sym more) done)

told_after : (b : Bool) (v : View) (i : ℕ) → (told v i b).after ≡ v.after
told_after true v i = refl
told_after false v i = refl

-- telling of a cube claims nothing
pub after_same : (v v' v'' : View) (i n : ℕ) (b : Bool) → v' ≡ sees v n → v'' ≡ told v' i b → v''.after ≡ v.after
after_same v v' v'' i n b is' is'' = ap (λ (y : View). y.after) is'' ∙ told_after b v' i ∙ ap (λ (y : View). y.after) is'

-- two seats are joined
pub merges : (may : ℕ → Cube → Type 0) (count p q n : ℕ) (v w : View) (es fs : List (ℕ × Cube)) → Worked may count p v es → Worked may count q w fs → n ≡ p + q → Worked may count n (both_of v w) (es ++ fs)
merges may count p q n v w es fs a b sum = record {
  count_is = a.count_is;
  parts_are = let x = a.parts_are in let y = b.parts_are in omega arith;
  allowed = All-append (λ (e : ℕ × Cube). may e.0 e.1) es fs a.allowed b.allowed;
  answered = λ x h.
      let c = times-append x v.claimed w.claimed in
      let m = numbers_more x es fs in
      dite (dec_lt 0 (times x v.claimed)) (λ here. ⊎_elim (λ (y : 0 < times x (numbers es)). inl (omega arith)) (λ (y : v.least < x). inr (omega arith)) (a.answered x here))
      (λ not. ⊎_elim (λ (y : 0 < times x (numbers fs)). inl (omega arith)) (λ (y : w.least < x). inr (omega arith)) (b.answered x (omega arith)));
  once = λ x. let c = times-append x v.claimed w.claimed in let m = numbers_more x es fs in let y = a.once x in let z = b.once x in omega arith;
  inside = λ x. let c = times-append x v.claimed w.claimed in let d = times-append x v.done w.done in let y = a.inside x in let z = b.inside x in omega arith;
  yes = λ x. let c = times-append x v.found w.found in let m = yes_more x es fs in let y = a.yes x in let z = b.yes x in omega arith;
}
