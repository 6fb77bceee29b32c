-- Each step of a seat on the words of a board keeps its rule.
use Rattle.std.proofs.Common.{◌≡◌, ℕ, ◌+◌, ◌%◌, ◌^◌, ◌<◌, ◌≤◌, inl, inr, refl, sym, ap, subst, ◌∙◌, [], ◌∷◌, length, length-append, set, get_or, arith, mod-eq_of_lt}
use Rattle.std.specs.Prelude.{min}
use mathlib.Core.Option.{some, none}
use mathlib.Core.Logic.{dite}
use native.Mathlib.Decide.{dec_lt, ℕ_discrete}
use lib.ListN.{get_elem?}
use Rattle.atomic_table.specs.Table.{Me, step, keeps, Allows}
use Rattle.list_lemmas.proofs.Counts.{times-append, total_set}
use Rattle.list_lemmas.specs.Counts.{times, total}
use Rattle.shared_search.specs.declared.words.View.{View}
use Rattle.shared_search.specs.Counts.{once_below, lowest}
use Rattle.shared_search.specs.Rule.{claims, ends, finds, sees, answers, Fits, Kept, claimed_after, found_after, looked_after, done_after}
use Rattle.shared_search.proofs.Totals.{total_le, least_set, least_same, once_more, same_time, other_time, length_of_counts, lowest_top, lowest-append}
use Rattle.shared_search.proofs.Fitting.{Words, all_fit, few_words}

-- a claim

claim_more : (cubes seats id : ℕ) (v : View) (s : Words) (k : Kept cubes seats s) → get_elem? s.views id ≡ some v → 0 < v.parts → k.next < cubes
    → Kept cubes seats record { words = set s.words 0 ((get_or s.words 0 0 + 1) % 2 ^ 64); homes = s.homes; views = set s.views id (claims v k.next) }
claim_more cubes seats id v s k at part below =
    let n = k.next in
    let w = claims v n in
    let f = k.each id v at in
    let room = few_words cubes seats s k in
    let few = k.few in
    let fits : n + 1 < 2 ^ 64 = let a = few.0 in let b = few.1 in omega arith in
    let one : (n + 1) % 2 ^ 64 ≡ n + 1 = mod-eq_of_lt fits in
    let low : min n cubes ≡ n = omega arith in
    let low' : min (n + 1) cubes ≡ n + 1 = omega arith in
    record {
      next = n + 1;
      least = k.least;
      done = k.done;
      words = ap (λ ws. set ws 0 ((get_or ws 0 0 + 1) % 2 ^ 64)) k.words ∙ ap (λ (m : ℕ). m ∷ k.least ∷ k.done ∷ []) one;
      few = few;
      parts = let t = total_set (λ (u : View). u.parts) s.views id v w at in let p = k.parts in omega arith;
      drawn = λ x.
          let t = total_set (λ (u : View). times x u.claimed) s.views id v w at in
          let p = k.drawn x in
          let a = times-append x v.claimed (n ∷ []) in
          let o = once_more x n in
          let o' : once_below x (min (n + 1) cubes) ≡ once_below x n + times x (n ∷ []) = ap (once_below x) low' ∙ o in
          let p' : total (λ (u : View). times x u.claimed) s.views ≡ once_below x n = p ∙ ap (once_below x) low in
          omega arith;
      drawn_count =
          let t = total_set (λ (u : View). length u.claimed) s.views id v w at in
          let p = k.drawn_count in
          let a = length-append v.claimed (n ∷ []) in
          omega arith;
      beyond = let t = total_set (λ (u : View). u.over) s.views id v w at in let p = k.beyond in omega arith;
      least_is = k.least_is ∙ sym (least_same (λ (u : View). lowest u.found) s.views id v w at refl);
      done_is = let t = total_set (λ (u : View). length u.done) s.views id v w at in let p = k.done_is in omega arith;
      each = all_fit cubes n k.least (n + 1) k.least id s.views w (omega arith) (omega arith) k.each
          record {
            cubes_are = f.cubes_are;
            room = f.room;
            ended = λ h. let e = f.ended h in omega arith;
            seen = f.seen;
            inside = λ x. let i = f.inside x in let a = times-append x v.claimed (n ∷ []) in omega arith;
            behind = omega arith;
            idle = λ none. absurd (omega arith);
          };
    }

claim_none : (cubes seats id : ℕ) (v : View) (s : Words) (k : Kept cubes seats s) → get_elem? s.views id ≡ some v → 0 < v.parts → v.over ≡ 0 → cubes ≤ k.next
    → Kept cubes seats record { words = set s.words 0 ((get_or s.words 0 0 + 1) % 2 ^ 64); homes = s.homes; views = set s.views id (ends v) }
claim_none cubes seats id v s k at part told above =
    let n = k.next in
    let w = ends v in
    let f = k.each id v at in
    let room = few_words cubes seats s k in
    let few = k.few in
    let fits : n + 1 < 2 ^ 64 = let a = few.0 in let b = few.1 in omega arith in
    let one : (n + 1) % 2 ^ 64 ≡ n + 1 = mod-eq_of_lt fits in
    let same : min (n + 1) cubes ≡ min n cubes = omega arith in
    record {
      next = n + 1;
      least = k.least;
      done = k.done;
      words = ap (λ ws. set ws 0 ((get_or ws 0 0 + 1) % 2 ^ 64)) k.words ∙ ap (λ (m : ℕ). m ∷ k.least ∷ k.done ∷ []) one;
      few = few;
      parts = let t = total_set (λ (u : View). u.parts) s.views id v w at in let p = k.parts in omega arith;
      drawn = λ x.
          let t = total_set (λ (u : View). times x u.claimed) s.views id v w at in
          let p = k.drawn x ∙ ap (once_below x) (sym same) in
          omega arith;
      drawn_count = let t = total_set (λ (u : View). length u.claimed) s.views id v w at in let p = k.drawn_count in omega arith;
      beyond = let t = total_set (λ (u : View). u.over) s.views id v w at in let p = k.beyond in omega arith;
      least_is = k.least_is ∙ sym (least_same (λ (u : View). lowest u.found) s.views id v w at refl);
      done_is = let t = total_set (λ (u : View). length u.done) s.views id v w at in let p = k.done_is in omega arith;
      each = all_fit cubes n k.least (n + 1) k.least id s.views w (omega arith) (omega arith) k.each
          record {
            cubes_are = f.cubes_are;
            room = omega arith;
            ended = λ h. omega arith;
            seen = f.seen;
            inside = f.inside;
            behind = let b = f.behind in omega arith;
            idle = λ none. absurd (omega arith);
          };
    }

pub claim_keeps : (cubes seats slots id : ℕ) (me : Me (Unit {0}) View) → 0 < me.0.parts → me.0.over ≡ 0
    → Allows (Kept cubes seats) slots id me 0 (λ n. (n + 1) % 2 ^ 64) (claimed_after (step slots 0 1 0 none) me)
claim_keeps cubes seats slots id me part not_told s k len at fits =
    let v = me.0 in
    let is : get_or s.words 0 0 ≡ k.next = ap (λ ws. get_or ws 0 0) k.words in
    let same : v.cubes ≡ cubes = (k.each id v at).cubes_are part in
    dite (dec_lt k.next cubes)
    (λ below. (claims v k.next, keeps, tt, claim_more cubes seats id v s k at part below, (refl, inl (omega arith, let b = (k.each id v at).behind in omega arith, ap (claims v) (sym is)))))
    (λ not. let above : cubes ≤ k.next = omega arith in (ends v, keeps, tt, claim_none cubes seats id v s k at part not_told above, (refl, inr (omega arith, refl))))

-- a yes

pub find_keeps : (cubes seats slots id cube : ℕ) (me : Me (Unit {0}) View) → 0 < me.0.parts → 0 < times cube me.0.claimed
    → Allows (Kept cubes seats) slots id me 1 (λ n. min n cube) (found_after (step slots 1 cube 0 none) me)
find_keeps cubes seats slots id cube me part had s k len at fits =
    let v = me.0 in
    let w = finds v cube in
    let f = k.each id v at in
    let lower : lowest w.found ≡ min (lowest v.found) cube = let a = lowest-append v.found (cube ∷ []) in let t = lowest_top v.found in omega arith in (
      w,
      keeps,
      tt,
      record {
        next = k.next;
        least = min k.least cube;
        done = k.done;
        words = ap (λ ws. set ws 1 (min (get_or ws 1 0) cube)) k.words;
        few = k.few;
        parts = let t = total_set (λ (u : View). u.parts) s.views id v w at in let p = k.parts in omega arith;
        drawn = λ x. let t = total_set (λ (u : View). times x u.claimed) s.views id v w at in let p = k.drawn x in omega arith;
        drawn_count = let t = total_set (λ (u : View). length u.claimed) s.views id v w at in let p = k.drawn_count in omega arith;
        beyond = let t = total_set (λ (u : View). u.over) s.views id v w at in let p = k.beyond in omega arith;
        least_is = ap (λ (n : ℕ). min n cube) k.least_is ∙ sym (least_set (λ (u : View). lowest u.found) s.views id v w cube at lower);
        done_is = let t = total_set (λ (u : View). length u.done) s.views id v w at in let p = k.done_is in omega arith;
        each = all_fit cubes k.next k.least k.next (min k.least cube) id s.views w (omega arith) (omega arith) k.each
            record {
              cubes_are = f.cubes_are;
              room = f.room;
              ended = f.ended;
              seen = let e = f.seen in omega arith;
              inside = f.inside;
              behind = f.behind;
              idle = λ none. absurd (omega arith);
            };
      },
      (refl, refl),
    )

-- a look

pub look_keeps : (cubes seats slots id : ℕ) (me : Me (Unit {0}) View) → Allows (Kept cubes seats) slots id me 1 (λ n. n) (looked_after (step slots 1 0 0 none) me)
look_keeps cubes seats slots id me s k len at fits =
    let v = me.0 in
    let n : ℕ = get_or s.words 1 0 in
    let is : n ≡ k.least = ap (λ ws. get_or ws 1 0) k.words in
    let w = sees v n in
    let f = k.each id v at in (
      w,
      keeps,
      tt,
      record {
        next = k.next;
        least = k.least;
        done = k.done;
        words = ap (λ ws. set ws 1 (get_or ws 1 0)) k.words;
        few = k.few;
        parts = let t = total_set (λ (u : View). u.parts) s.views id v w at in let p = k.parts in omega arith;
        drawn = λ x. let t = total_set (λ (u : View). times x u.claimed) s.views id v w at in let p = k.drawn x in omega arith;
        drawn_count = let t = total_set (λ (u : View). length u.claimed) s.views id v w at in let p = k.drawn_count in omega arith;
        beyond = let t = total_set (λ (u : View). u.over) s.views id v w at in let p = k.beyond in omega arith;
        least_is = k.least_is ∙ sym (least_same (λ (u : View). lowest u.found) s.views id v w at refl);
        done_is = let t = total_set (λ (u : View). length u.done) s.views id v w at in let p = k.done_is in omega arith;
        each = all_fit cubes k.next k.least k.next k.least id s.views w (omega arith) (omega arith) k.each
            record {
              cubes_are = f.cubes_are;
              room = f.room;
              ended = f.ended;
              seen = omega (arith, is);
              inside = f.inside;
              behind = f.behind;
              idle = f.idle;
            };
      },
      (refl, refl, let e = f.seen in omega (arith, is, e)),
    )

-- an answer

inside_more : (cube : ℕ) (v : View) → times cube v.done < times cube v.claimed → ((x : ℕ) → times x v.done ≤ times x v.claimed) → (x : ℕ) → times x (answers v cube).done ≤ times x v.claimed
inside_more cube v had inside x =
    let a = times-append x v.done (cube ∷ []) in
    dite (ℕ_discrete x cube)
    (λ same. let o = same_time x cube same in let h : times x v.done < times x v.claimed = subst (λ (y : ℕ). times y v.done < times y v.claimed) (sym same) had in omega arith)
    (λ other. let o = other_time x cube other in let i = inside x in omega arith)

answer_fits : (cubes next least cube : ℕ) (v : View) → times cube v.done < times cube v.claimed → 0 < v.parts → Fits cubes next least v → Fits cubes next least (answers v cube)
answer_fits cubes next least cube v had part f = record {
  cubes_are = f.cubes_are;
  room = f.room;
  ended = f.ended;
  seen = f.seen;
  inside = inside_more cube v had f.inside;
  behind = f.behind;
  idle = λ none. absurd (omega arith);
}

pub answer_keeps : (cubes seats slots id cube : ℕ) (me : Me (Unit {0}) View) → 0 < me.0.parts → times cube me.0.done < times cube me.0.claimed
    → Allows (Kept cubes seats) slots id me 2 (λ n. (n + 1) % 2 ^ 64) (done_after cube (step slots 2 1 0 none) me)
answer_keeps cubes seats slots id cube me part had s k len at fits =
    let v = me.0 in
    let w = answers v cube in
    let f = k.each id v at in
    let vs = set s.views id w in
    let fit = all_fit cubes k.next k.least k.next k.least id s.views w (omega arith) (omega arith) k.each (answer_fits cubes k.next k.least cube v had part f) in
    let counted = total_set (λ (u : View). length u.done) s.views id v w at in
    let long = length-append v.done (cube ∷ []) in
    let is_done : k.done + 1 ≡ total (λ (u : View). length u.done) vs = let p = k.done_is in omega arith in
    let claimed : total (λ (u : View). length u.claimed) vs ≡ min k.next cubes = let t = total_set (λ (u : View). length u.claimed) s.views id v w at in let p = k.drawn_count in omega arith in
    let short = total_le (λ (u : View). length u.done) (λ (u : View). length u.claimed) vs (λ i u e. length_of_counts u.done u.claimed (fit i u e).inside) in
    let few = k.few.0 in
    let small : k.done + 1 < 2 ^ 64 = omega arith in
    let one : (k.done + 1) % 2 ^ 64 ≡ k.done + 1 = mod-eq_of_lt small in (
      w,
      keeps,
      tt,
      record {
        next = k.next;
        least = k.least;
        done = k.done + 1;
        words = ap (λ ws. set ws 2 ((get_or ws 2 0 + 1) % 2 ^ 64)) k.words ∙ ap (λ (m : ℕ). k.next ∷ k.least ∷ m ∷ []) one;
        few = k.few;
        parts = let t = total_set (λ (u : View). u.parts) s.views id v w at in let p = k.parts in omega arith;
        drawn = λ x. let t = total_set (λ (u : View). times x u.claimed) s.views id v w at in let p = k.drawn x in omega arith;
        drawn_count = claimed;
        beyond = let t = total_set (λ (u : View). u.over) s.views id v w at in let p = k.beyond in omega arith;
        least_is = k.least_is ∙ sym (least_same (λ (u : View). lowest u.found) s.views id v w at refl);
        done_is = is_done;
        each = fit;
      },
      (refl, refl),
    )
