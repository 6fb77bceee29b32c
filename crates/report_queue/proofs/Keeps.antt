-- Each step of a seat on the word of a latest report keeps its rule.
use Rattle.std.proofs.Common.{◌≡◌, ◌≢◌, ℕ, ◌+◌, ◌*◌, ◌<◌, ⊎_elim, inl, inr, refl, sym, ap, subst, ◌∙◌, List, [], ◌∷◌, ◌++◌, set, get_or, arith}
use Rattle.std.specs.Prelude.{All}
use mathlib.Core.Option.{some, none}
use lib.ListN.{get_elem?}
use Rattle.atomic_table.specs.Table.{State, Me, step, keeps, Allows, Splits, Joins, opening}
use Rattle.atomic_table.proofs.Lists.{at_set, at_snoc, set_again}
use Rattle.list_lemmas.proofs.Counts.{all_set, only_one, total_set, total_snoc, total_two}
use Rattle.list_lemmas.specs.Counts.{total}
use Rattle.order_check.specs.declared.remainder.Kind.{Kind}
use Rattle.report_queue.specs.declared.words.View.{View}
use Rattle.report_queue.specs.Reports.{Told, code_of, word_of, report_at, told_by, round_of, IsBefore, IsNoLater, WasPublished, last_of}
use Rattle.report_queue.specs.Rule.{publisher, reader, publishes, looks_at, heard_of, note_of, IsPast, Fits, Kept, published_after, looked_after}
use Rattle.report_queue.proofs.Telling.{report_of_word, told_of_word, last_more, past_more, last_published, above_last}

-- at the start

publisher_fits : Fits [] publisher
publisher_fits = record { list = λ h. refl; seen = (tt, inl refl); told = (tt, inl refl) }

pub begins : Kept (opening (0 ∷ []) [] publisher)
begins = record {
  published = [];
  words = refl;
  real = inl refl;
  once = omega arith;
  each = λ i v e. subst (λ (u : View). Fits [] u) (only_one publisher i v e) publisher_fits;
}

-- a report is published

pub publish_keeps : (slots id round code : ℕ) (kind : Kind) (me : Me (Unit {0}) View) → code ≡ code_of kind → me.0.publishes ≡ 1 → 0 < round → All (IsBefore round) me.0.published
    → Allows Kept slots id me 0 (λ _. 4 * round + code) (λ _. published_after (step slots 0 (4 * round + code) 0 none) me (4 * round + code))
publish_keeps slots id round code kind me is mine pos later s k len at fits =
    let v = me.0 in
    let x : Told = (round, kind) in
    let n = 4 * round + code in
    let told : report_at n ≡ x = ap (λ m. report_at (4 * round + m)) is ∙ report_of_word round kind in
    let w = publishes v (report_at n) in
    let f = k.each id v at in
    let list : v.published ≡ k.published = f.list (omega arith) in
    let up : round_of (last_of k.published) < round = above_last k.published round pos (subst (λ (l : List Told). All (IsBefore round) l) list later) in
    let last = last_more k.published x in (
      w,
      keeps,
      tt,
      record {
        published = k.published ++ x ∷ [];
        words = ap (λ ws. set ws 0 n) k.words ∙ ap (λ m. (4 * round + m) ∷ []) is ∙ ap (λ a. word_of a ∷ []) (sym last);
        real = inr (subst (λ a. 0 < round_of a) (sym last) pos);
        once = let t = total_set (λ (y : View). y.publishes) s.views id v w at in let o = k.once in omega arith;
        each = all_set (Fits (k.published ++ x ∷ [])) s.views id w
            record { list = λ h. ap (λ (l : List Told). l ++ report_at n ∷ []) list ∙ ap (λ r. k.published ++ r ∷ []) told; seen = past_more k.published x v.seen up f.seen; told = past_more k.published x v.told up f.told }
            (λ j u other e. let g = k.each j u e in
            record {
              list = λ h. absurd (let t = total_two (λ (y : View). y.publishes) s.views id j v u at e other in let o = k.once in omega arith);
              seen = past_more k.published x u.seen up g.seen;
              told = past_more k.published x u.told up g.told;
            });
      },
      (refl, refl),
    )

-- a look

pub look_keeps : (slots id : ℕ) (me : Me (Unit {0}) View) → Allows Kept slots id me 0 (λ n. n) (looked_after (step slots 0 0 0 none) me)
look_keeps slots id me s k len at fits =
    let v = me.0 in
    let n : ℕ = get_or s.words 0 0 in
    let f = k.each id v at in
    let is : told_by n ≡ last_of k.published = ap (λ ws. told_by (get_or ws 0 0)) k.words ∙ told_of_word (last_of k.published) k.real in
    let w = looks_at v (told_by n) in (
      w,
      keeps,
      tt,
      record {
        published = k.published;
        words = ap (λ ws. set ws 0 (get_or ws 0 0)) k.words;
        real = k.real;
        once = let t = total_set (λ (y : View). y.publishes) s.views id v w at in let o = k.once in omega arith;
        each = all_set (Fits k.published) s.views id w
            record { list = f.list; seen = subst (IsPast k.published) (sym is) (last_published k.published, inl refl); told = f.told }
            (λ j u other e. k.each j u e);
      },
      (
        refl,
        refl,
        subst (IsNoLater v.seen) (sym is) f.seen.1,
        subst (IsNoLater v.told) (sym is) f.told.1,
        λ h. subst (λ (l : List Told). WasPublished l v.told) (sym (f.list h)) f.told.0,
        λ h. (is ∙ ap last_of (sym (f.list h)), subst (λ (l : List Told). IsNoLater v.told (last_of l)) (sym (f.list h)) f.told.1),
      ),
    )

-- a seat is split off

added : (s : State (Unit {0}) View) (k : Kept s) (id : ℕ) (v u : View) → get_elem? s.views id ≡ some v → u.publishes ≡ 0 → Fits k.published u → Kept record { words = s.words; homes = s.homes; views = set s.views id v ++ u ∷ [] }
added s k id v u at quiet fits =
    let same : set s.views id v ≡ s.views = set_again s.views id v at in
    record {
      published = k.published;
      words = k.words;
      real = k.real;
      once = let t = total_snoc (λ (y : View). y.publishes) (set s.views id v) u in let e = ap (total (λ (y : View). y.publishes)) same in let o = k.once in omega arith;
      each = λ j y e. ⊎_elim (λ h. k.each j y (subst (λ l. get_elem? l j ≡ some y) same h)) (λ (h : u ≡ y). subst (Fits k.published) h fits) (at_snoc (set s.views id v) u y j e);
    }

pub open_keeps : (id : ℕ) (v : View) → Splits Kept id v v reader
open_keeps id v s k at = added s k id v reader at refl record { list = λ h. absurd (omega arith); seen = (tt, k.real); told = (tt, k.real) }

pub note_keeps : (id : ℕ) (v : View) → Splits Kept id v v (note_of v)
note_keeps id v s k at =
    let f = k.each id v at in
    added s k id v (note_of v) at refl record { list = λ h. absurd (omega arith); seen = f.seen; told = f.told }

-- a note is read

at_other : (views : List View) (id other : ℕ) (both w : View) → ¬ (other ≡ id) → get_elem? (set views id both) other ≡ some w → get_elem? views other ≡ some w
at_other views id other both w apart e = ⊎_elim (λ (x : (other ≡ id) × (both ≡ w)). absurd (apart x.0)) (λ (x : (other ≢ id) × (get_elem? views other ≡ some w)). x.1) (at_set views id other both w e)

pub read_keeps : (id : ℕ) (v : View) (other : ℕ) (w : View) → w.publishes ≡ 0 → Joins Kept id v other w (heard_of v w.seen) reader
read_keeps id v other w quiet s k at apart at' =
    let both = heard_of v w.seen in
    let vs = set s.views id both in
    let f = k.each id v at in
    let was : get_elem? s.views other ≡ some w = at_other s.views id other both w apart at' in
    let fit = all_set (Fits k.published) s.views id both record { list = f.list; seen = f.seen; told = (k.each other w was).seen } (λ j u ne e. k.each j u e) in
    record {
      published = k.published;
      words = k.words;
      real = k.real;
      once = let t = total_set (λ (y : View). y.publishes) s.views id v both at in let t' = total_set (λ (y : View). y.publishes) vs other w reader at' in let o = k.once in omega arith;
      each = all_set (Fits k.published) vs other reader record { list = λ h. absurd (omega arith); seen = (tt, k.real); told = (tt, k.real) } (λ j u ne e. fit j u e);
    }
