-- A board's rule holds at the start, and is kept where seats are split and joined; what a seat with all parts learns.
use Rattle.std.proofs.Common.{◌≡◌, ◌≢◌, ℕ, ◌<◌, ◌≤◌, ⊎_elim, refl, sym, ap, subst, ◌∙◌, List, [], ◌∷◌, length, length-append, set, get_or, arith}
use Rattle.std.specs.Prelude.{min}
use mathlib.Core.Option.{some, none}
use mathlib.Core.Logic.{dite}
use native.Mathlib.Decide.{dec_lt}
use lib.ListN.{get_elem?}
use Rattle.atomic_table.specs.Table.{Me, step, keeps, Allows, Splits, Joins, opening}
use Rattle.atomic_table.proofs.Lists.{at_set, at_snoc, set_here, set_again}
use Rattle.list_lemmas.proofs.Counts.{times-append, only_one, total_set, total_snoc}
use Rattle.list_lemmas.specs.Counts.{times, total}
use Rattle.shared_search.specs.declared.words.View.{View}
use Rattle.shared_search.specs.Counts.{once_below, nothing, lowest}
use Rattle.shared_search.specs.Rule.{fresh, gives_one, both_of, Fits, Kept, Whole, settled_after}
use Rattle.shared_search.proofs.Totals.{total_only, least_under, least_at, least_set, least_same, least_snoc, least_up, least_only, none_below, lowest_top, lowest-append}
use Rattle.shared_search.proofs.Fitting.{Words, all_fit, index_in}

-- at the start

fresh_fits : (cubes parts : ℕ) → Fits cubes 0 nothing (fresh cubes parts)
fresh_fits cubes parts = record {
  cubes_are = λ h. refl;
  room = omega arith;
  ended = λ h. absurd (omega arith);
  seen = omega arith;
  inside = λ x. omega arith;
  behind = omega arith;
  idle = λ h. (refl, refl, refl);
}

pub begins : (cubes seats : ℕ) → cubes ≤ 281474976710656 → seats ≤ 16 → Kept cubes seats (opening (0 ∷ nothing ∷ 0 ∷ []) [] (fresh cubes seats))
begins cubes seats few few' = record {
  next = 0;
  least = nothing;
  done = 0;
  words = refl;
  few = (few, few');
  parts = omega arith;
  drawn = λ x. let z : min 0 cubes ≡ 0 = omega arith in none_below x ∙ ap (once_below x) (sym z);
  drawn_count = omega arith;
  beyond = omega arith;
  least_is = omega arith;
  done_is = omega arith;
  each = λ i v e. subst (λ (u : View). Fits cubes 0 nothing u) (only_one (fresh cubes seats) i v e) (fresh_fits cubes seats);
}

-- a part is split off

pub split_keeps : (cubes seats id : ℕ) (v : View) → v ≡ fresh v.cubes v.parts → 1 < v.parts → Splits (Kept cubes seats) id v (gives_one v) (fresh v.cubes 1)
split_keeps cubes seats id v new two s k at =
    let l = gives_one v in
    let r = fresh v.cubes 1 in
    let vs = set s.views id l in
    let f = k.each id v at in
    let not_told : v.over ≡ 0 = ap (λ (u : View). u.over) new in
    let same : v.cubes ≡ cubes = f.cubes_are (omega arith) in
    let left_fits : Fits cubes k.next k.least l = record {
      cubes_are = λ h. same;
      room = omega arith;
      ended = f.ended;
      seen = f.seen;
      inside = f.inside;
      behind = f.behind;
      idle = λ none. absurd (omega arith);
    } in
    let right_fits : Fits cubes k.next k.least r = record {
      cubes_are = λ h. same;
      room = omega arith;
      ended = λ h. absurd (omega arith);
      seen = let e = f.seen in let x : v.least ≡ nothing = ap (λ (u : View). u.least) new in omega arith;
      inside = λ x. omega arith;
      behind = omega arith;
      idle = λ none. (refl, refl, refl);
    } in
    record {
      next = k.next;
      least = k.least;
      done = k.done;
      words = k.words;
      few = k.few;
      parts = let t = total_set (λ (u : View). u.parts) s.views id v l at in let q = total_snoc (λ (u : View). u.parts) vs r in let p = k.parts in omega arith;
      drawn = λ x.
          let t = total_set (λ (u : View). times x u.claimed) s.views id v l at in
          let q = total_snoc (λ (u : View). times x u.claimed) vs r in
          let p = k.drawn x in
          omega arith;
      drawn_count = let t = total_set (λ (u : View). length u.claimed) s.views id v l at in let q = total_snoc (λ (u : View). length u.claimed) vs r in let p = k.drawn_count in omega arith;
      beyond = let t = total_set (λ (u : View). u.over) s.views id v l at in let q = total_snoc (λ (u : View). u.over) vs r in let p = k.beyond in omega arith;
      least_is = k.least_is ∙ sym (least_same (λ (u : View). lowest u.found) s.views id v l at refl) ∙ sym (least_snoc (λ (u : View). lowest u.found) vs r refl);
      done_is = let t = total_set (λ (u : View). length u.done) s.views id v l at in let q = total_snoc (λ (u : View). length u.done) vs r in let p = k.done_is in omega arith;
      each = λ i u e. ⊎_elim (λ (old : get_elem? vs i ≡ some u). all_fit cubes k.next k.least k.next k.least id s.views l (omega arith) (omega arith) k.each left_fits i u old)
          (λ (is : r ≡ u). subst (λ (y : View). Fits cubes k.next k.least y) is right_fits) (at_snoc vs r u i e);
    }

-- a seat is taken in

spent_fits : (cubes next least : ℕ) → least ≤ nothing → Fits cubes next least (fresh 0 0)
spent_fits cubes next least top = record {
  cubes_are = λ h. absurd (omega arith);
  room = omega arith;
  ended = λ h. absurd (omega arith);
  seen = top;
  inside = λ x. omega arith;
  behind = omega arith;
  idle = λ none. (refl, refl, refl);
}

both_fit : (cubes next least : ℕ) (v w : View) → 0 < v.parts → Fits cubes next least v → Fits cubes next least w → Fits cubes next least (both_of v w)
both_fit cubes next least v w part f g = record {
  cubes_are = λ h. f.cubes_are part;
  room = let a = f.room in let b = g.room in omega arith;
  ended = λ h. dite (dec_lt 0 v.over) (λ here. f.ended here) (λ not. g.ended (omega arith));
  seen = let a = f.seen in let b = g.seen in omega arith;
  inside = λ x. let a = f.inside x in let b = g.inside x in let c = times-append x v.claimed w.claimed in let d = times-append x v.done w.done in omega arith;
  behind = let a = f.behind in let b = g.behind in omega arith;
  idle = λ none. absurd (omega arith);
}

pub join_keeps : (cubes seats id : ℕ) (v : View) (other : ℕ) (w : View) → 0 < v.parts → Joins (Kept cubes seats) id v other w (both_of v w) (fresh 0 0)
join_keeps cubes seats id v other w part s k at two at' =
    let b = both_of v w in
    let vs = set s.views id b in
    let z = fresh 0 0 in
    let was : get_elem? s.views other ≡ some w = ⊎_elim (λ (x : (other ≡ id) × (b ≡ w)). absurd (two x.0)) (λ (x : (other ≢ id) × (get_elem? s.views other ≡ some w)). x.1) (at_set s.views id other b w at') in
    let f = k.each id v at in
    let g = k.each other w was in
    let under = least_under (λ (u : View). lowest u.found) s.views in
    let lower = lowest-append v.found w.found in
    let top = lowest_top w.found in
    let here = set_here s.views id b (index_in s.views id v at) in
    let first = least_set (λ (u : View). lowest u.found) s.views id v b (lowest w.found) at lower in
    let second = least_up (λ (u : View). lowest u.found) vs other w z at' id b here (λ e. two (sym e)) (omega (arith, lower)) top refl in
    record {
      next = k.next;
      least = k.least;
      done = k.done;
      words = k.words;
      few = k.few;
      parts = let t = total_set (λ (u : View). u.parts) s.views id v b at in let t' = total_set (λ (u : View). u.parts) vs other w z at' in let p = k.parts in omega arith;
      drawn = λ x.
          let t = total_set (λ (u : View). times x u.claimed) s.views id v b at in
          let t' = total_set (λ (u : View). times x u.claimed) vs other w z at' in
          let p = k.drawn x in
          let a = times-append x v.claimed w.claimed in
          omega arith;
      drawn_count =
          let t = total_set (λ (u : View). length u.claimed) s.views id v b at in
          let t' = total_set (λ (u : View). length u.claimed) vs other w z at' in
          let p = k.drawn_count in
          let a = length-append v.claimed w.claimed in
          omega arith;
      beyond = let t = total_set (λ (u : View). u.over) s.views id v b at in let t' = total_set (λ (u : View). u.over) vs other w z at' in let p = k.beyond in omega arith;
      least_is = let l = k.least_is in let at_w = least_at (λ (u : View). lowest u.found) s.views other w was in omega (arith, first, second, l, at_w);
      done_is =
          let t = total_set (λ (u : View). length u.done) s.views id v b at in
          let t' = total_set (λ (u : View). length u.done) vs other w z at' in
          let p = k.done_is in
          let a = length-append v.done w.done in
          omega arith;
      each = all_fit cubes k.next k.least k.next k.least other vs z (omega arith) (omega arith)
          (all_fit cubes k.next k.least k.next k.least id s.views b (omega arith) (omega arith) k.each (both_fit cubes k.next k.least v w part f g))
          (spent_fits cubes k.next k.least (let l = k.least_is in omega arith));
    }

-- a seat with all parts

whole_of : (cubes seats id : ℕ) (v : View) (s : Words) (k : Kept cubes seats s) → get_elem? s.views id ≡ some v → 0 < v.parts → v.parts ≡ seats → Whole v
whole_of cubes seats id v s k at part all =
    let f = k.each id v at in
    let whole : total (λ (u : View). u.parts) s.views ≡ v.parts = k.parts ∙ sym all in (
      λ over x.
          let low : min k.next cubes ≡ cubes = let e = f.ended over in omega arith in
          let c = f.cubes_are part in
          sym (total_only (λ (u : View). u.parts) (λ (u : View). times x u.claimed) s.views id v at whole (λ j u e none. ap (times x) ((k.each j u e).idle none).0)) ∙ k.drawn x ∙ ap (once_below x) (low ∙ sym c),
      let only = least_only (λ (u : View). u.parts) (λ (u : View). lowest u.found) s.views id v at (lowest_top v.found) whole (λ j u e none. ap lowest ((k.each j u e).idle none).1) in
          let l = k.least_is in
          let e = f.seen in
          omega arith,
    )

pub settle_keeps : (cubes seats slots id : ℕ) (me : Me (Unit {0}) View) → 0 < me.0.parts → me.0.parts ≡ seats → Allows (Kept cubes seats) slots id me 1 (λ n. n) (settled_after (step slots 1 0 0 none) me)
settle_keeps cubes seats slots id me part all s k len at fits =
    let v = me.0 in
    let words : set s.words 1 (get_or s.words 1 0) ≡ s.words = ap (λ ws. set ws 1 (get_or ws 1 0)) k.words ∙ sym k.words in
    let same : set s.views id v ≡ s.views = set_again s.views id v at in (
      v,
      keeps,
      tt,
      subst (λ (x : List ℕ × List View). Kept cubes seats record { words = x.0; homes = s.homes; views = x.1 }) (λ i. (sym words i, sym same i)) k,
      (refl, whole_of cubes seats id v s k at part all),
    )
