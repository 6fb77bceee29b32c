-- Reports and the words that tell of them, and which report was published later.
use Rattle.std.proofs.Common.{◌≡◌, ℕ, zero, suc, ◌+◌, ◌-◌, ◌*◌, ◌/◌, ◌%◌, ◌<◌, inl, inr, refl, sym, ap, subst, ◌∙◌, List, [], ◌∷◌, ◌++◌, length, length-append, Option, Some, None, Bool, ◌≢◌, arith, ne_eqb}
use Rattle.std.specs.Prelude.{slice_get, unwrap_or, All, if◌then◌else◌}
use Rattle.std.proofs.lemmas.List.Elements.{All-head, All-tail}
use Rattle.order_check.specs.declared.remainder.Kind.{Kind}
use Rattle.order_check.specs.declared.remainder.Kind.TheVariants.{Serial, Pending, Violated, Spent}
use Rattle.report_queue.specs.Reports.{Told, code_of, kind_at, word_of, report_at, told_by, round_of, IsBefore, IsNoLater, WasPublished, last_of}
use Rattle.report_queue.specs.Rule.{IsPast}

-- the report that a word tells of

parts : (round code : ℕ) → code < 4 → report_at (4 * round + code) ≡ (round, kind_at code)
parts round code small =
    let whole : (4 * round + code) / 4 ≡ round = omega arith in
    let rest : (4 * round + code) % 4 ≡ code = omega arith in
    λ i. (whole i, kind_at (rest i))

pub report_of_word : (round : ℕ) (kind : Kind) → report_at (4 * round + code_of kind) ≡ (round, kind)
report_of_word round Serial = parts round 0 (omega arith)
report_of_word round Pending = parts round 1 (omega arith)
report_of_word round Violated = parts round 2 (omega arith)
report_of_word round Spent = parts round 3 (omega arith)

pub told_of_word : (last : Option Told) → IsNoLater None last → told_by (word_of last) ≡ last
told_of_word None h = refl
told_of_word (Some told) (inl e) = absurd cc
told_of_word (Some told) (inr pos) =
    let some_word : word_of (Some told) ≢ 0 = λ e. omega (arith, pos, e) in
    ap (λ (b : Bool). if b then None else Some (report_at (word_of (Some told)))) (ne_eqb (word_of (Some told)) 0 some_word) ∙ ap Some (report_of_word told.0 told.1)

-- earlier and later

pub no_later : (a b c : Option Told) → IsNoLater a b → IsNoLater b c → IsNoLater a c
no_later a b c (inl e) h = subst (λ x. IsNoLater x c) (sym e) h
no_later a b c (inr l) (inl e) = inr (subst (λ x. round_of a < round_of x) e l)
no_later a b c (inr l) (inr m) = inr (omega arith)

-- lists of reports

pub get_more : (xs : List Told) (x y : Told) (k : ℕ) → slice_get xs k ≡ Some y → slice_get (xs ++ x ∷ []) k ≡ Some y
get_more [] x y k e = absurd cc
get_more (z ∷ xs) x y zero e = e
get_more (z ∷ xs) x y (suc k) e = get_more xs x y k e

pub get_last : (xs : List Told) (x : Told) → slice_get (xs ++ x ∷ []) (length xs) ≡ Some x
get_last [] x = refl
get_last (z ∷ xs) x = get_last xs x

pub last_more : (xs : List Told) (x : Told) → last_of (xs ++ x ∷ []) ≡ Some x
last_more xs x =
    let long : length (xs ++ x ∷ []) - 1 ≡ length xs = let l = length-append xs (x ∷ []) in omega arith in
    ap (λ k. slice_get (xs ++ x ∷ []) k) long ∙ get_last xs x

pub published_more : (xs : List Told) (x : Told) (a : Option Told) → WasPublished xs a → WasPublished (xs ++ x ∷ []) a
published_more xs x None h = tt
published_more xs x (Some y) h = (h.0, get_more xs x y h.0 h.1)

-- what was published and is no later than the last is so when a report of a later round is published
pub past_more : (xs : List Told) (x : Told) (a : Option Told) → round_of (last_of xs) < x.0 → IsPast xs a → IsPast (xs ++ x ∷ []) a
past_more xs x a up h =
    let above : round_of (last_of xs) < round_of (last_of (xs ++ x ∷ [])) = subst (λ b. round_of (last_of xs) < round_of b) (sym (last_more xs x)) up in
    (published_more xs x a h.0, no_later a (last_of xs) (last_of (xs ++ x ∷ [])) h.1 (inr above))

pub last_published : (xs : List Told) → WasPublished xs (last_of xs)
last_published xs = at (last_of xs) refl
  where
    at : (a : Option Told) → last_of xs ≡ a → WasPublished xs a
    at None e = tt
    at (Some y) e = (length xs - 1, e)

-- what holds of each holds of the last
pub each_at : (P : Told → Type 0) (xs : List Told) (k : ℕ) (y : Told) → All P xs → slice_get xs k ≡ Some y → P y
each_at P [] k y all e = absurd cc
each_at P (x ∷ xs) zero y all e = subst P (ap (λ o. unwrap_or o x) e) (All-head P x xs all)
each_at P (x ∷ xs) (suc k) y all e = each_at P xs k y (All-tail P x xs all) e

-- a report above all that were published is above the last
pub above_last : (xs : List Told) (round : ℕ) → 0 < round → All (IsBefore round) xs → round_of (last_of xs) < round
above_last xs round pos all = at (last_of xs) (last_published xs)
  where
    at : (a : Option Told) → WasPublished xs a → round_of a < round
    at None h = pos
    at (Some y) h = each_at (IsBefore round) xs h.0 y all h.1
