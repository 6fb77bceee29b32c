-- Entries with rising keys: what is left of them, and two lists of them made one.
use Rattle.std.proofs.Common.{◌≡◌, ◌↔◌, ◌⊎◌, ℕ, ◌+◌, ◌<◌, ◌≤◌, Bool, true, false, not, cond, All, None, Some, Option, List, [], ◌∷◌, ◌++◌, length, drop, get_or, filter, refl, sym, ap, subst, ◌∙◌, suc, zero, arith, ltb, leb, eqb, inl, inr, append_assoc}
use Rattle.std.specs.BTreeMap.{is_at}
use Rattle.std.specs.Prelude.{IsSome}
use Rattle.std.specs.FinMap.{from_entries, get, insert, same_map, nat_cmp-IsAntisymmetric}
use Rattle.std.specs.List.{AllByRecursion}
use Rattle.std.specs.List.Sorted.{IsStrictlySortedBy, IsNonDecreasingBy}
use Rattle.std.specs.Map.{keys_of}
use Rattle.std.specs.Ordering.{nat_cmp}
use Rattle.std.specs.declared.cmp.Ordering.TheVariants.{Less}
use Rattle.std.proofs.lemmas.Bool.{ltb-false, leb-false, lt-ltb, le-ltb, le-leb, lt-leb, eq-eqb, ne_eqb, cases_order, not-true}
use Rattle.std.proofs.lemmas.Cmp.{nat_cmp_total}
use Rattle.std.proofs.lemmas.List.Elements.{filter_passes}
use Rattle.std.proofs.lemmas.List.{get_or-map, length-map, drop_all, drop_more, drop-drop}
use Rattle.std.proofs.lemmas.Map.Entries.{lookup-filter-keys}
use Rattle.std.proofs.lemmas.Map.Keys.{non_decreasing_from_sorted}
use Rattle.std.proofs.lemmas.Map.Views.{Contains-from_lookup}
use Rattle.txn.specs.declared.transactions.TxnId.{TxnId}
use Rattle.order_check.specs.Rising.{IsRising}
use Rattle.order_check.specs.Rules.{IsBelowMark, AreBelowMarks}
use Rattle.order_check.specs.Settled.{or_else}
use Rattle.order_check.proofs.Writers.{entry_at, get-entry_at, same_key, one_put, below_from_entries}

-- each entry's key is above
abbrev AreAbove : ℕ → List (ℕ × TxnId) → Type 0
AreAbove k es = AllByRecursion (λ y. nat_cmp k y ≡ Less) (keys_of es)

less : (x y : ℕ) → ltb x y ≡ true → nat_cmp x y ≡ Less
less x y e = rw e refl

less_from_lt : (x y : ℕ) → x < y → nat_cmp x y ≡ Less
less_from_lt x y h = less x y (lt-ltb x y h)

above-filter : (k : ℕ) (p : ℕ × TxnId → Bool) (es : List (ℕ × TxnId)) → AreAbove k es → AreAbove k (filter p es)
above-filter k p [] h = h
above-filter k p (e ∷ es) h = elim (p e) as (λ b. AreAbove k (cond b (e ∷ filter p es) (filter p es))) [
  | true ↦ (h.0, above-filter k p es h.1)
  | false ↦ above-filter k p es h.1
]

above-append : (k : ℕ) (es fs : List (ℕ × TxnId)) → AreAbove k es → AreAbove k fs → AreAbove k (es ++ fs)
above-append k [] fs g h = h
above-append k (e ∷ es) fs g h = (g.0, above-append k es fs g.1 h)

above-trans : (j k : ℕ) (es : List (ℕ × TxnId)) → nat_cmp j k ≡ Less → AreAbove k es → AreAbove j es
above-trans j k [] l h = h
above-trans j k (e ∷ es) l h = (nat_cmp_total.trans j k e.0 l h.0, above-trans j k es l h.1)

above-behind : (k : ℕ) (es : List (ℕ × TxnId)) → AreAbove k (filter (λ e. not (leb e.0 k)) es)
above-behind k [] = tt
above-behind k (e ∷ es) = elim (leb e.0 k) as (λ b. leb e.0 k ≡ b → AreAbove k (cond (not b) (e ∷ filter (λ d. not (leb d.0 k)) es) (filter (λ d. not (leb d.0 k)) es))) [
  | true ↦ λ is. above-behind k es
  | false ↦ λ is. (less_from_lt k e.0 (leb-false e.0 k is), above-behind k es)
] refl

pub rising-filter : (p : ℕ × TxnId → Bool) (es : List (ℕ × TxnId)) → IsRising es → IsRising (filter p es)
unfolding IsStrictlySortedBy
rising-filter p [] h = h
rising-filter p (e ∷ es) h = elim (p e) as (λ b. IsRising (cond b (e ∷ filter p es) (filter p es))) [
  | true ↦ (above-filter e.0 p es h.0, rising-filter p es h.1)
  | false ↦ rising-filter p es h.1
]

pub rising-drop : (i : ℕ) (es : List (ℕ × TxnId)) → IsRising es → IsRising (drop i es)
unfolding IsStrictlySortedBy
rising-drop zero es h = h
rising-drop (suc i) [] h = h
rising-drop (suc i) (e ∷ es) h = rising-drop i es h.1

-- the keys don't fall
pub keys_do_not_fall : (es : List (ℕ × TxnId)) → IsRising es → IsNonDecreasingBy (λ e. e.0) es
keys_do_not_fall es h i j d le lt =
    let one : get_or (keys_of es) i d.0 ≡ (get_or es i d).0 = get_or-map (λ e. e.0) es i d d.0 (omega arith) in
    let other : get_or (keys_of es) j d.0 ≡ (get_or es j d).0 = get_or-map (λ e. e.0) es j d d.0 lt in
    subst (λ n. n ≤ (get_or es j d).0) one (subst (λ n. get_or (keys_of es) i d.0 ≤ n) other (non_decreasing_from_sorted (keys_of es) h i j d.0 le (omega (arith, length-map es (λ e. e.0)))))

-- both lists as one: at a key of both, what the first has
abbrev pub overlaid : List (ℕ × TxnId) → List (ℕ × TxnId) → List (ℕ × TxnId)
overlaid [] older = older
overlaid (e ∷ es) older = filter (λ d. ltb d.0 e.0) older ++ e ∷ overlaid es (filter (λ d. not (leb d.0 e.0)) older)

above-overlaid : (k : ℕ) (newer older : List (ℕ × TxnId)) → AreAbove k newer → AreAbove k older → AreAbove k (overlaid newer older)
above-overlaid k [] older g h = h
above-overlaid k (e ∷ es) older g h =
    above-append k (filter (λ d. ltb d.0 e.0) older) (e ∷ overlaid es (filter (λ d. not (leb d.0 e.0)) older)) (above-filter k _ older h)
    (g.0, above-overlaid k es (filter (λ d. not (leb d.0 e.0)) older) g.1 (above-filter k _ older h))

rising-in_front : (n : ℕ × TxnId) (es rest : List (ℕ × TxnId)) → IsRising es → IsRising (n ∷ rest) → IsRising (filter (λ d. ltb d.0 n.0) es ++ n ∷ rest)
unfolding IsStrictlySortedBy
rising-in_front n [] rest g h = h
rising-in_front n (e ∷ es) rest g h = elim (ltb e.0 n.0) as (λ b. ltb e.0 n.0 ≡ b → IsRising (cond b (e ∷ filter (λ d. ltb d.0 n.0) es) (filter (λ d. ltb d.0 n.0) es) ++ n ∷ rest)) [
  | true ↦ λ is. (
    above-append e.0 (filter (λ d. ltb d.0 n.0) es) (n ∷ rest) (above-filter e.0 (λ d. ltb d.0 n.0) es g.0) (less e.0 n.0 is, above-trans e.0 n.0 rest (less e.0 n.0 is) h.0),
    rising-in_front n es rest g.1 h,
  )
  | false ↦ λ is. rising-in_front n es rest g.1 h
] refl

pub rising-overlaid : (newer older : List (ℕ × TxnId)) → IsRising newer → IsRising older → IsRising (overlaid newer older)
unfolding IsStrictlySortedBy
rising-overlaid [] older g h = h
rising-overlaid (e ∷ es) older g h =
    let behind = filter (λ d. not (leb d.0 e.0)) older in
    rising-in_front e older (overlaid es behind) h (above-overlaid e.0 es behind g.0 (above-behind e.0 older), rising-overlaid es behind g.1 (rising-filter (λ d. not (leb d.0 e.0)) older h))

-- ---- what they have at a key
pub at-append : (es fs : List (ℕ × TxnId)) (q : ℕ) → entry_at (es ++ fs) q ≡ or_else (entry_at es q) (entry_at fs q)
at-append [] fs q = refl
at-append (e ∷ es) fs q = elim (is_at (nat_cmp q) e.0) as (λ b. cond b (Some e.1) (entry_at (es ++ fs) q) ≡ or_else (cond b (Some e.1) (entry_at es q)) (entry_at fs q)) [
  | true ↦ refl
  | false ↦ at-append es fs q
]

none_at : (q : ℕ) (es : List (ℕ × TxnId)) → AreAbove q es → entry_at es q ≡ None
none_at q [] h = refl
none_at q (e ∷ es) h = rw h.0 (none_at q es h.1)

at_filter : (p : ℕ → Bool) (es : List (ℕ × TxnId)) (q : ℕ) → entry_at (filter (λ e. p e.0) es) q ≡ cond (p q) (entry_at es q) None
at_filter p es q = lookup-filter-keys (is_at (nat_cmp q)) p (p q) (λ k e. ap p (sym (same_key q k e))) es

or_none : (a : Option TxnId) → or_else a None ≡ a
or_none None = refl
or_none (Some x) = refl

by_order : (q k : ℕ) (own rest : Option TxnId) (w : TxnId) → (q < k → own ≡ None) → or_else (cond (ltb q k) rest None) (cond (is_at (nat_cmp q) k) (Some w) (or_else own (cond (not (leb q k)) rest None))) ≡ or_else (cond (is_at (nat_cmp q) k) (Some w) own) rest
by_order q k own rest w none = elim (cases_order q k) as (λ _. or_else (cond (ltb q k) rest None) (cond (is_at (nat_cmp q) k) (Some w) (or_else own (cond (not (leb q k)) rest None))) ≡ or_else (cond (is_at (nat_cmp q) k) (Some w) own) rest) [
  | inl same ↦
      let a : ltb q k ≡ false = le-ltb q k (omega arith) in
      let b : eqb q k ≡ true = eq-eqb q k same in
      rw (a, b) refl
  | inr (inl below) ↦
      let a : ltb q k ≡ true = lt-ltb q k below in
      let b : leb q k ≡ true = le-leb q k (omega arith) in
      let c : own ≡ None = none below in
      rw (a, b, c) (or_none rest)
  | inr (inr above) ↦
      let a : ltb q k ≡ false = le-ltb q k (omega arith) in
      let b : eqb q k ≡ false = ne_eqb q k (λ e. omega arith) in
      let c : leb q k ≡ false = lt-leb q k above in
      rw (a, b, c) refl
]

at_overlaid : (newer older : List (ℕ × TxnId)) (q : ℕ) → IsRising newer → entry_at (overlaid newer older) q ≡ or_else (entry_at newer q) (entry_at older q)
unfolding IsStrictlySortedBy
at_overlaid [] older q h = refl
at_overlaid (e ∷ es) older q h =
    let behind = filter (λ d. not (leb d.0 e.0)) older in
    let front = filter (λ d. ltb d.0 e.0) older in
    let left : entry_at front q ≡ cond (ltb q e.0) (entry_at older q) None = at_filter (λ k. ltb k e.0) older q in
    let right : entry_at behind q ≡ cond (not (leb q e.0)) (entry_at older q) None = at_filter (λ k. not (leb k e.0)) older q in
    let further : entry_at (overlaid es behind) q ≡ or_else (entry_at es q) (entry_at behind q) = at_overlaid es behind q h.1 in
    at-append front (e ∷ overlaid es behind) q
    ∙ rw (left, further, right) (by_order q e.0 (entry_at es q) (entry_at older q) e.1 (λ below. none_at q es (above-trans q e.0 es (less_from_lt q e.0 below) h.0)))

pub overlaid_is : (newer older : List (ℕ × TxnId)) → IsRising newer → from_entries {R = nat_cmp} (overlaid newer older) ≡ from_entries (newer ++ older)
overlaid_is newer older h = same_map nat_cmp_total nat_cmp-IsAntisymmetric _ _ (λ q. get-entry_at (overlaid newer older) q ∙ at_overlaid newer older q h ∙ sym (at-append newer older q) ∙ sym (get-entry_at (newer ++ older) q))

-- ---- a search by its place
at_place : (es : List (ℕ × TxnId)) (key place : ℕ) → drop place es ≡ filter (λ e. not (ltb e.0 key)) es → entry_at (drop place es) key ≡ entry_at es key
at_place es key place is =
    let own : ltb key key ≡ false = le-ltb key key (omega arith) in
    ap (λ ds. entry_at ds key) is ∙ at_filter (λ k. not (ltb k key)) es key ∙ rw own refl

at_first : (key : ℕ) (e : ℕ × TxnId) (rest : List (ℕ × TxnId)) → IsRising (e ∷ rest) → ltb e.0 key ≡ false → entry_at (e ∷ rest) key ≡ cond (eqb key e.0) (Some e.1) None
unfolding IsStrictlySortedBy
at_first key e rest h from = elim (cases_order key e.0) as (λ _. entry_at (e ∷ rest) key ≡ cond (eqb key e.0) (Some e.1) None) [
  | inl same ↦
      let a : ltb key e.0 ≡ false = le-ltb key e.0 (omega arith) in
      let b : eqb key e.0 ≡ true = eq-eqb key e.0 same in
      rw (a, b) refl
  | inr (inl below) ↦
      let a : ltb key e.0 ≡ true = lt-ltb key e.0 below in
      let b : eqb key e.0 ≡ false = ne_eqb key e.0 (λ e. omega arith) in
      rw (a, b) (none_at key rest (above-trans key e.0 rest (less_from_lt key e.0 below) h.0))
  | inr (inr above) ↦ let at = ltb-false e.0 key from in absurd (omega arith)
]

pub found_at_place : (es : List (ℕ × TxnId)) (key place : ℕ) (e : ℕ × TxnId) → IsRising es → drop place es ≡ filter (λ d. not (ltb d.0 key)) es → place < length es → e ≡ get_or es place e → cond (eqb key e.0) (Some e.1) None ≡ entry_at es key
found_at_place es key place e h is within at =
    let rest = drop (place + 1) es in
    let more : drop place es ≡ e ∷ rest = drop_more es place e within ∙ ap (λ d. d ∷ rest) (sym at) in
    let passes : All (λ (d : ℕ × TxnId). not (ltb d.0 key) ≡ true) (e ∷ rest) = subst (All (λ (d : ℕ × TxnId). not (ltb d.0 key) ≡ true)) (sym is ∙ more) (filter_passes (λ d. not (ltb d.0 key)) es) in
    let from : ltb e.0 key ≡ false = not-true (ltb e.0 key) (passes 0 e (omega arith)) in
    sym (at_first key e rest (subst IsRising more (rising-drop place es h)) from) ∙ ap (λ ds. entry_at ds key) (sym more) ∙ at_place es key place is

pub none_past_place : (es : List (ℕ × TxnId)) (key place : ℕ) → drop place es ≡ filter (λ d. not (ltb d.0 key)) es → length es ≤ place → None ≡ entry_at es key
none_past_place es key place is past = sym (ap (λ ds. entry_at ds key) (drop_all place es past)) ∙ at_place es key place is

-- ---- a loop over the newer entries
pub one_more : (all more newer older made : List (ℕ × TxnId)) (n from next : ℕ) (d : ℕ × TxnId) → n < length newer → more ≡ all ++ (filter (λ e. ltb e.0 (get_or newer n d).0) (drop from older) ++ get_or newer n d ∷ []) → drop next (drop from older) ≡ filter (λ e. not (leb e.0 (get_or newer n d).0)) (drop from older) → all ++ overlaid (drop n newer) (drop from older) ≡ made → more ++ overlaid (drop (n + 1) newer) (drop (from + next) older) ≡ made
one_more all more newer older made n from next d within pushed left sofar =
    let own = get_or newer n d in
    let front = filter (λ e. ltb e.0 own.0) (drop from older) in
    let behind = filter (λ e. not (leb e.0 own.0)) (drop from older) in
    let rest = drop (n + 1) newer in
    ap (λ es. more ++ overlaid rest es) (sym (drop-drop next from older) ∙ left)
    ∙ ap (λ es. es ++ overlaid rest behind) pushed
    ∙ append_assoc all (front ++ own ∷ []) (overlaid rest behind)
    ∙ ap (λ es. all ++ es) (append_assoc front (own ∷ []) (overlaid rest behind))
    ∙ sym (ap (λ es. all ++ overlaid es (drop from older)) (drop_more newer n d within))
    ∙ sofar

pub all_more : (all newer older made : List (ℕ × TxnId)) (n from : ℕ) → length newer ≤ n → all ++ overlaid (drop n newer) (drop from older) ≡ made → all ++ drop from older ≡ made
all_more all newer older made n from past sofar = sym (ap (λ ds. all ++ overlaid ds (drop from older)) (drop_all n newer past)) ∙ sofar

-- ---- a map of two lists
pub get_both : (es fs : List (ℕ × TxnId)) (q : ℕ) → get (from_entries {R = nat_cmp} (es ++ fs)) q ≡ or_else (entry_at es q) (entry_at fs q)
get_both es fs q = get-entry_at (es ++ fs) q ∙ at-append es fs q

over : (b : Bool) (x : TxnId) (own rest : Option TxnId) → or_else (cond b (Some x) own) rest ≡ cond b (Some x) (or_else own rest)
over true x own rest = refl
over false x own rest = refl

pub put_first : (es fs older : List (ℕ × TxnId)) (key : ℕ) (x : TxnId) → ((q : ℕ) → entry_at fs q ≡ cond (is_at (nat_cmp key) q) (Some x) (entry_at es q)) → from_entries {R = nat_cmp} (fs ++ older) ≡ insert (from_entries (es ++ older)) key x
put_first es fs older key x h = one_put (es ++ older) (fs ++ older) key x (λ q.
    at-append fs older q ∙ ap (λ a. or_else a (entry_at older q)) (h q) ∙ over (is_at (nat_cmp key) q) x (entry_at es q) (entry_at older q)
    ∙ ap (cond (is_at (nat_cmp key) q) (Some x)) (sym (at-append es older q)))

each_found : (es : List (ℕ × TxnId)) → IsRising es → All (λ e. entry_at es e.0 ≡ Some e.1) es
unfolding IsStrictlySortedBy
each_found [] h k d within = absurd (omega arith)
each_found (e ∷ es) h zero d within =
    let a : ltb e.0 e.0 ≡ false = le-ltb e.0 e.0 (omega arith) in
    let b : eqb e.0 e.0 ≡ true = eq-eqb e.0 e.0 refl in
    rw (a, b) refl
each_found (e ∷ es) h (suc k) d within =
    let at = get_or es k d in
    let later : entry_at es at.0 ≡ Some at.1 = each_found es h.1 k d (omega arith) in
    elim (is_at (nat_cmp at.0) e.0) as (λ b. is_at (nat_cmp at.0) e.0 ≡ b → cond b (Some e.1) (entry_at es at.0) ≡ Some at.1) [
      | true ↦ λ is. let none : entry_at es at.0 ≡ None = ap (entry_at es) (same_key at.0 e.0 is) ∙ none_at e.0 es h.0 in absurd cc
      | false ↦ λ is. later
    ] refl

-- where each writer of the first is below its mark, and each of the second whose key the first doesn't have, all are
abbrev pub IsBelowOrHidden : List ℕ → List (ℕ × TxnId) → ℕ × TxnId → Type 0
IsBelowOrHidden marks es e = IsSome (entry_at es e.0) ⊎ IsBelowMark marks e.1

both_below : (marks : List ℕ) (es fs : List (ℕ × TxnId)) → All (λ e. IsBelowMark marks e.1) es → All (IsBelowOrHidden marks es) fs → AreBelowMarks marks (from_entries {R = nat_cmp} (es ++ fs))
both_below marks es fs firsts seconds key writer got = elim (entry_at es key) as (λ own. entry_at es key ≡ own → or_else own (entry_at fs key) ≡ Some writer → IsBelowMark marks writer) [
  | Some first ↦ λ is same. below_from_entries marks es firsts key writer (get-entry_at es key ∙ is ∙ same)
  | None ↦ λ is same.
      let (k, within, at) = Contains-from_lookup {eq = λ x. is_at (nat_cmp x)} same_key key writer fs same in
      elim (subst (IsBelowOrHidden marks es) at (seconds k (key, writer) within)) as (λ _. IsBelowMark marks writer) [
        | inl hidden ↦ absurd cc
        | inr below ↦ below
      ]
] refl (sym (get_both es fs key) ∙ got)

hidden_or_below : (marks : List ℕ) (es fs : List (ℕ × TxnId)) → AreBelowMarks marks (from_entries {R = nat_cmp} (es ++ fs)) → (e : ℕ × TxnId) → entry_at fs e.0 ≡ Some e.1 → IsBelowOrHidden marks es e
hidden_or_below marks es fs below e at = elim (entry_at es e.0) as (λ own. entry_at es e.0 ≡ own → IsSome own ⊎ IsBelowMark marks e.1) [
  | Some first ↦ λ is. inl refl
  | None ↦ λ is. inr (below e.0 e.1 (get_both es fs e.0 ∙ ap (λ own. or_else own (entry_at fs e.0)) is ∙ at))
] refl

pub first_below : (marks : List ℕ) (es fs : List (ℕ × TxnId)) → All (λ e. entry_at es e.0 ≡ Some e.1) es → AreBelowMarks marks (from_entries {R = nat_cmp} (es ++ fs)) → All (λ e. IsBelowMark marks e.1) es
first_below marks es fs found below k d within =
    let e = get_or es k d in
    below e.0 e.1 (get_both es fs e.0 ∙ ap (λ own. or_else own (entry_at fs e.0)) (found k d within))

pub below_both : (marks : List ℕ) (es fs : List (ℕ × TxnId)) → All (λ e. entry_at es e.0 ≡ Some e.1) es → IsRising fs → (All (λ e. IsBelowMark marks e.1) es × All (IsBelowOrHidden marks es) fs) ↔ AreBelowMarks marks (from_entries {R = nat_cmp} (es ++ fs))
below_both marks es fs found h = (
  λ all. both_below marks es fs all.0 all.1,
  λ below. (
    first_below marks es fs found below,
    (λ k d within. hidden_or_below marks es fs below (get_or fs k d) (each_found fs h k d within)),
  ),
)
