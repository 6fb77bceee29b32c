-- Totals over views, views after one was changed, and the parcels of each collector in longer lists.
use Rattle.std.proofs.Common.{◌≡◌, ◌≢◌, ℕ, zero, suc, ◌+◌, ◌<◌, ◌≤◌, ◌⊎◌, inl, inr, ⊎_elim, Bool, true, false, cond, refl, sym, ap, subst, ◌∙◌, List, [], ◌∷◌, ◌++◌, length, length-append, take, drop, Some, arith, append-nil, eqb, eq-eqb, ne_eqb}
use Rattle.std.specs.Prelude.{slice_get, if◌then◌else◌}
use Rattle.std.proofs.lemmas.List.Elements.{filter-append}
use mathlib.Core.Logic.{dite}
use native.Mathlib.Decide.{ℕ_discrete}
use Rattle.list_lemmas.specs.Counts.{times}
use Rattle.fragment_intake.specs.declared.rules.Parcel.{Parcel}
use Rattle.fragment_intake.specs.Delivers.{of, whos, Tells}

-- totals

pub apart_time : (x p : ℕ) → x ≢ p → ◌≡◌ {A = ℕ} (if eqb x p then 1 else 0) 0
apart_time x p other = ap (λ (b : Bool). if b then 1 else 0) (ne_eqb x p other)

pub self_time : (p : ℕ) → 1 ≤ times p (p ∷ [])
self_time p = ap_one (eqb p p) (eq-eqb p p refl)
  where
    ap_one : (b : Bool) → b ≡ true → 1 ≤ cond b 1 0 + 0
    ap_one true e = omega arith
    ap_one false e = absurd cc

-- the parcels of one collector

pub of-append : (p : ℕ) (xs ys : List Parcel) → of p (xs ++ ys) ≡ of p xs ++ of p ys
of-append p xs ys = filter-append (λ (x : Parcel). eqb x.collector p) xs ys

pub of-own : (p : ℕ) (x : Parcel) (xs : List Parcel) → x.collector ≡ p → of p (x ∷ xs) ≡ x ∷ of p xs
of-own p x xs is = ap (λ b. cond b (x ∷ of p xs) (of p xs)) (eq-eqb x.collector p is)

pub of-other : (p : ℕ) (x : Parcel) (xs : List Parcel) → x.collector ≢ p → of p (x ∷ xs) ≡ of p xs
of-other p x xs other = ap (λ b. cond b (x ∷ of p xs) (of p xs)) (ne_eqb x.collector p other)

-- what is sent once x of collector p goes in
pub more : (ℕ → List Parcel) → ℕ → Parcel → ℕ → List Parcel
more sent p x q = cond (eqb p q) (sent q ++ x ∷ []) (sent q)

pub more-same : (sent : ℕ → List Parcel) (p : ℕ) (x : Parcel) → more sent p x p ≡ sent p ++ x ∷ []
unfolding more
more-same sent p x = ap (λ b. cond b (sent p ++ x ∷ []) (sent p)) (eq-eqb p p refl)

pub more-other : (sent : ℕ → List Parcel) (p : ℕ) (x : Parcel) (q : ℕ) → p ≢ q → more sent p x q ≡ sent q
unfolding more
more-other sent p x q other = ap (λ b. cond b (sent q ++ x ∷ []) (sent q)) (ne_eqb p q other)

pub whole-more : (sent : ℕ → List Parcel) (p : ℕ) (x : Parcel) (held : List Parcel) → x.collector ≡ p → ((q : ℕ) → of q held ≡ sent q) → (q : ℕ) → of q (held ++ x ∷ []) ≡ more sent p x q
whole-more sent p x held is whole q = dite (ℕ_discrete p q)
    (λ same. let one : of q (x ∷ []) ≡ x ∷ [] = of-own q x [] (is ∙ same) in
    of-append q held (x ∷ []) ∙ ap (λ l. of q held ++ l) one ∙ ap (λ l. l ++ x ∷ []) (whole q) ∙ sym (subst (λ r. more sent p x r ≡ sent r ++ x ∷ []) same (more-same sent p x)))
    (λ other. let none : of q (x ∷ []) ≡ [] = of-other q x [] (λ e. other (sym is ∙ e)) in
    of-append q held (x ∷ []) ∙ ap (λ l. of q held ++ l) none ∙ append-nil (of q held) ∙ whole q ∙ sym (more-other sent p x q other))

pub tells-more : (sent : ℕ → List Parcel) (p : ℕ) (x : Parcel) (ms : List (ℕ × List Parcel)) → times p (whos ms) ≡ 0 → Tells sent ms → Tells (more sent p x) ms
tells-more sent p x [] none h = h
tells-more sent p x (m ∷ ms) none (is, rest) =
    let apart : p ≢ m.0 = λ same. let here : ◌≡◌ {A = ℕ} (if eqb m.0 p then 1 else 0) 1 = ap (λ (b : Bool). if b then 1 else 0) (eq-eqb m.0 p (sym same)) in omega (arith, none, here) in
    (is ∙ sym (more-other sent p x m.0 apart), tells-more sent p x ms (omega (arith, none)) rest)

pub tells-append : (sent : ℕ → List Parcel) (ms ns : List (ℕ × List Parcel)) → Tells sent ms → Tells sent ns → Tells sent (ms ++ ns)
tells-append sent [] ns a b = b
tells-append sent (m ∷ ms) ns (is, rest) b = (is, tells-append sent ms ns rest b)

pub tells-rest : (sent : ℕ → List Parcel) (n : ℕ) (ms : List (ℕ × List Parcel)) → Tells sent ms → Tells sent (drop n ms) × Tells sent (take n ms)
tells-rest sent zero ms h = (h, tt)
tells-rest sent (suc n) [] h = (h, h)
tells-rest sent (suc n) (m ∷ ms) (is, rest) = let r = tells-rest sent n ms rest in (r.0, (is, r.1))

pub tells-swap : (f g : ℕ → List Parcel) (ms : List (ℕ × List Parcel)) → ((p : ℕ) → g p ≡ f p) → Tells f ms → Tells g ms
tells-swap f g [] same h = h
tells-swap f g (m ∷ ms) same (is, rest) = (is ∙ sym (same m.0), tells-swap f g ms same rest)

pub whos-append : (ms ns : List (ℕ × List Parcel)) → whos (ms ++ ns) ≡ whos ms ++ whos ns
whos-append [] ns = refl
whos-append (m ∷ ms) ns = ap (λ l. m.0 ∷ l) (whos-append ms ns)

pub whos-rest : (p n : ℕ) (ms : List (ℕ × List Parcel)) → times p (whos (drop n ms)) + times p (whos (take n ms)) ≡ times p (whos ms)
whos-rest p zero ms = omega arith
whos-rest p (suc n) [] = refl
whos-rest p (suc n) (m ∷ ms) = let e = whos-rest p n ms in omega arith

-- places

pub get_snoc : (xs : List Parcel) (x y : Parcel) (k : ℕ) → slice_get (xs ++ x ∷ []) k ≡ Some y → (slice_get xs k ≡ Some y) ⊎ ((k ≡ length xs) × (x ≡ y))
get_snoc [] x y zero e = inr (refl, cc)
get_snoc [] x y (suc k) e = absurd cc
get_snoc (z ∷ xs) x y zero e = inl e
get_snoc (z ∷ xs) x y (suc k) e = ⊎_elim (λ h. inl h) (λ h. inr (ap suc h.0, h.1)) (get_snoc xs x y k e)

pub get_at : (xs ys : List Parcel) (x : Parcel) → slice_get (xs ++ x ∷ ys) (length xs) ≡ Some x
get_at [] ys x = refl
get_at (z ∷ xs) ys x = get_at xs ys x

pub numbered_more : (sent : ℕ → List Parcel) (p : ℕ) (x : Parcel) → x.place ≡ length (sent p) → ((q k : ℕ) (y : Parcel) → slice_get (sent q) k ≡ Some y → y.place ≡ k) → (q k : ℕ) (y : Parcel) → slice_get (more sent p x q) k ≡ Some y → y.place ≡ k
numbered_more sent p x place numbered q k y at = dite (ℕ_discrete p q)
    (λ same. let list : more sent p x q ≡ sent q ++ x ∷ [] = subst (λ r. more sent p x r ≡ sent r ++ x ∷ []) same (more-same sent p x) in
    ⊎_elim (λ h. numbered q k y h) (λ h. ap (λ (z : Parcel). z.place) (sym h.1) ∙ place ∙ ap (λ r. length (sent r)) same ∙ sym h.0) (get_snoc (sent q) x y k (subst (λ l. slice_get l k ≡ Some y) list at)))
    (λ other. numbered q k y (subst (λ l. slice_get l k ≡ Some y) (more-other sent p x q other) at))

pub few_more : (sent : ℕ → List Parcel) (p : ℕ) (x : Parcel) (put : List Parcel) → put ≡ sent p → length put < 281474976710656 → ((q : ℕ) → length (sent q) ≤ 281474976710656) → (q : ℕ) → length (more sent p x q) ≤ 281474976710656
few_more sent p x put had small few q = dite (ℕ_discrete p q)
    (λ same. let list : more sent p x q ≡ sent q ++ x ∷ [] = subst (λ r. more sent p x r ≡ sent r ++ x ∷ []) same (more-same sent p x) in
    let long : length (more sent p x q) ≡ length (sent q) + 1 = ap length list ∙ length-append (sent q) (x ∷ []) in
    let size : length put ≡ length (sent q) = ap length had ∙ ap (λ r. length (sent r)) same in omega (arith, long, size, small))
    (λ other. let long : length (more sent p x q) ≡ length (sent q) = ap length (more-other sent p x q other) in omega (arith, long, few q))
