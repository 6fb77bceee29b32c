-- An engine of split transactions stays one.
use Rattle.std.proofs.Common.{◌≡◌, ◌≢◌, ℕ, zero, suc, ◌+◌, ◌-◌, ◌*◌, ◌<◌, ◌≤◌, ◌/◌, ◌%◌, ◌^◌, ◌⊎◌, ◌||◌, Bool, true, false, cond, nat_eq, nat_lt, List, [], ◌∷◌, ◌++◌, length, map, drop, Option, Some, None, refl, sym, ap, subst, ◌∙◌, inl, inr, ⊎_elim, arith}
use Rattle.std.specs.Prelude.{All, IsSomeAnd, slice_index, slice_set}
use Rattle.std.specs.FinMap.{FinMap, get}
use Rattle.std.specs.List.{list_any, slice_get}
use Rattle.std.specs.Ordering.{nat_cmp}
use Rattle.std.proofs.lemmas.Bool.{cases_lt, false≢true}
use Rattle.std.proofs.lemmas.Bool.Decides.{eqb_tells, leb_tells}
use Rattle.std.proofs.lemmas.List.{drop-append-le, get_or_past, get_or-set_same, get_or-set_other, get_or_append_left, length-append, length-drop}
use Rattle.std.proofs.lemmas.List.Elements.{All-nil, All-head, All-tail, All-append, All-drop}
use Rattle.std.proofs.Math.Seq.{get_or-append_seam}
use Rattle.txn.specs.declared.transactions.TxnId.{TxnId}
use Rattle.txn.specs.declared.transactions.Txn.{Txn}
use Rattle.txn.specs.declared.transactions.Fragment.{Fragment}
use Rattle.txn.specs.History.{session_of, writes_key}
use Rattle.logged_fragments.specs.Effects.{effects}
use Rattle.logged_fragments.specs.declared.logged.LoggedFragment.{LoggedFragment}
use Rattle.order_check.specs.declared.remainder.Kind.{Kind}
use Rattle.order_check.specs.declared.remainder.Kind.TheVariants.{Serial, Pending, Violated, Spent}
use Rattle.order_check.specs.declared.remainder.Parts.{Parts}
use Rattle.order_check.specs.Based.{mark_of, remaining_of, received_count}
use Rattle.order_check.specs.Known.{WritesKey}
use Rattle.order_check.specs.Settled.{IsCutAt, IsCutOf, count_in, or_else}
use Rattle.order_check.specs.StandsFor.{Joins, Returns, parts_after, with_fragment, with_session}
use Rattle.settle.specs.Found.{IsFound}
use Rattle.settle.specs.declared.cuts.Cut.{Cut}
use Rattle.round_state.specs.EngineState.{EngineState}
use Rattle.round_state.specs.Steps.{IsAdmitted, IsFinished, IsHeldAfter, IsLetIn, IsTruncated, StepsTo, engine_offered, engine_joined}
use Rattle.round_state.specs.declared.steps.Step.TheVariants.{Offer, Join, Close, Begin, Finish, Judge, Abandon, Truncate, Rebuild}
use Rattle.round_state.specs.declared.steps.StepReply.TheVariants as reply
use Rattle.isolation_histories.specs.Laws.{EffectsCanBeSplit, SplitKeepsEffects}
use Rattle.isolation_histories.specs.Logged.{split_logged}
use Rattle.isolation_histories.specs.Offered.{CanBeOffered}
use Rattle.isolation_histories.specs.Split.{star, split_of, split_txns}
use Rattle.isolation_histories.specs.Splittable.{HasLowNumbers}
use Rattle.isolation_scripts.specs.SplitParts.{AreHalvesFrom, AreSplitParts, HaveHalfKeys, IsKeyOf, IsSplitEngine, SplitEnginesStay}
use Rattle.isolation_scripts.proofs.SplitLists.{drop_drop, split_append, split_drop, split_length}

-- ---- the halves of a session

none_from : (s : ℕ) → AreHalvesFrom s 0 []
none_from s = record { txns = []; low = All-nil HasLowNumbers; are = refl }

long_from : (s mark : ℕ) (halves : List Txn) (are : AreHalvesFrom s mark halves) → length halves ≡ 2 * length are.txns - mark % 2
long_from s mark halves are =
    ap (λ (hs : List Txn). length hs) are.are ∙ length-drop (mark % 2) (split_txns s (mark / 2) are.txns) ∙ ap (λ n. n - mark % 2) (split_length s (mark / 2) are.txns)

-- more arrive at the end
more_from : (s mark first : ℕ) (halves more : List Txn) → AreHalvesFrom s mark halves → All HasLowNumbers more → 2 * first ≡ mark + length halves → AreHalvesFrom s mark (halves ++ split_txns s first more)
more_from s mark first halves more are low next =
    let long = long_from s mark halves are in
    let place : first ≡ mark / 2 + length are.txns = omega (arith, next, long) in
    let fits : mark % 2 ≤ length (split_txns s (mark / 2) are.txns) = omega (arith, next, long, split_length s (mark / 2) are.txns) in
    record {
      txns = are.txns ++ more;
      low = All-append HasLowNumbers are.txns more are.low low;
      are =
          ap (λ (hs : List Txn). hs ++ split_txns s first more) are.are
          ∙ sym (drop-append-le (mark % 2) (split_txns s (mark / 2) are.txns) (split_txns s first more) fits)
          ∙ ap (λ n. drop (mark % 2) (split_txns s (mark / 2) are.txns ++ split_txns s n more)) place
          ∙ ap (drop (mark % 2)) (sym (split_append s (mark / 2) are.txns more));
    }

-- the first so many are gone
cut_from : (s mark c : ℕ) (halves : List Txn) → AreHalvesFrom s mark halves → AreHalvesFrom s (mark + c) (drop c halves)
cut_from s mark c halves are =
    let q : ℕ = (mark % 2 + c) / 2 in
    let whole : List Txn = split_txns s (mark / 2) are.txns in
    let total : c + mark % 2 ≡ (mark + c) % 2 + 2 * q = omega arith in
    let place : mark / 2 + q ≡ (mark + c) / 2 = omega arith in
    record {
      txns = drop q are.txns;
      low = All-drop HasLowNumbers q are.txns are.low;
      are =
          ap (drop c) are.are
          ∙ drop_drop c (mark % 2) whole
          ∙ ap (λ n. drop n whole) total
          ∙ sym (drop_drop ((mark + c) % 2) (2 * q) whole)
          ∙ ap (drop ((mark + c) % 2)) (split_drop s (mark / 2) q are.txns ∙ ap (λ n. split_txns s n (drop q are.txns)) place);
    }

-- ---- sessions

abbrev Remain : Parts → Type 0
Remain parts = (t : ℕ) → AreHalvesFrom t (mark_of parts t) (remaining_of parts t)

more_remain : (parts : Parts) (fragment : Fragment) → Remain parts → fragment.session < length parts.remain → All HasLowNumbers fragment.txns → 2 * fragment.first ≡ received_count parts fragment.session → (t : ℕ) → AreHalvesFrom t (mark_of parts t) (session_of (with_fragment parts.remain (split_of fragment)) t)
more_remain parts fragment are within low next t = by_test (eqb_tells t fragment.session)
  where
    after : List Txn
    after = remaining_of parts fragment.session ++ split_txns fragment.session fragment.first fragment.txns

    by_test : ((nat_eq t fragment.session ≡ true) × (t ≡ fragment.session)) ⊎ ((nat_eq t fragment.session ≡ false) × (t ≡ fragment.session → ⊥)) → AreHalvesFrom t (mark_of parts t) (session_of (with_fragment parts.remain (split_of fragment)) t)
    by_test (inl same) =
        subst (λ k. AreHalvesFrom k (mark_of parts k) (session_of (with_fragment parts.remain (split_of fragment)) k)) (sym same.1)
        (subst (λ (hs : List Txn). AreHalvesFrom fragment.session (mark_of parts fragment.session) hs) (sym (get_or-set_same parts.remain fragment.session after [] within))
        (more_from fragment.session (mark_of parts fragment.session) fragment.first (remaining_of parts fragment.session) fragment.txns (are fragment.session) low next))
    by_test (inr other) = subst (λ (hs : List Txn). AreHalvesFrom t (mark_of parts t) hs) (sym (get_or-set_other parts.remain fragment.session t after [] other.1)) (are t)

-- one session more, of which nothing was received
joined_remain : (parts : Parts) (fragment : Fragment) → length parts.base.marks ≡ length parts.remain → Remain parts → fragment.session ≡ length parts.remain → All HasLowNumbers fragment.txns → 2 * fragment.first ≡ received_count parts fragment.session → (t : ℕ)
    → AreHalvesFrom t (slice_index (parts.base.marks ++ 0 ∷ []) t) (session_of (with_session parts.remain (split_of fragment)) t)
joined_remain parts fragment sessions are new low next t = ⊎_elim before not_before (cases_lt t (length parts.remain))
  where
    count : ℕ
    count = length parts.remain

    no_mark : mark_of parts count ≡ 0
    no_mark = get_or_past parts.base.marks count 0 (omega (arith, sessions))

    none_there : remaining_of parts count ≡ []
    none_there = get_or_past parts.remain count [] (omega arith)

    first : fragment.first ≡ 0
    first =
        let at : 2 * fragment.first ≡ received_count parts count = next ∙ ap (received_count parts) new in
        omega (arith, at, no_mark, ap (λ (hs : List Txn). length hs) none_there)

    before : t < count → AreHalvesFrom t (slice_index (parts.base.marks ++ 0 ∷ []) t) (session_of (with_session parts.remain (split_of fragment)) t)
    before less =
        subst (λ m. AreHalvesFrom t m (session_of (with_session parts.remain (split_of fragment)) t)) (sym (get_or_append_left parts.base.marks (0 ∷ []) 0 t (omega (arith, less, sessions))))
        (subst (λ (hs : List Txn). AreHalvesFrom t (mark_of parts t) hs) (sym (get_or_append_left parts.remain (split_txns fragment.session fragment.first fragment.txns ∷ []) [] t less)) (are t))

    here : AreHalvesFrom count 0 (split_txns count 0 fragment.txns)
    here = record { txns = fragment.txns; low = low; are = refl }

    at_end : AreHalvesFrom count (slice_index (parts.base.marks ++ 0 ∷ []) count) (session_of (with_session parts.remain (split_of fragment)) count)
    at_end =
        subst (λ m. AreHalvesFrom count m (session_of (with_session parts.remain (split_of fragment)) count)) (sym (ap (λ n. slice_index (parts.base.marks ++ 0 ∷ []) n) (sym sessions) ∙ get_or-append_seam parts.base.marks 0 [] 0))
        (subst (λ (hs : List Txn). AreHalvesFrom count 0 hs)
        (sym (get_or-append_seam parts.remain (split_txns fragment.session fragment.first fragment.txns) [] [] ∙ ap (λ n. split_txns n fragment.first fragment.txns) new ∙ ap (λ n. split_txns count n fragment.txns) first)) here)

    past : count < t → AreHalvesFrom t (slice_index (parts.base.marks ++ 0 ∷ []) t) (session_of (with_session parts.remain (split_of fragment)) t)
    past more =
        let one : length (parts.base.marks ++ 0 ∷ []) ≡ length parts.base.marks + 1 = length-append parts.base.marks (0 ∷ []) in
        let other : length (parts.remain ++ split_txns fragment.session fragment.first fragment.txns ∷ []) ≡ count + 1 = length-append parts.remain (split_txns fragment.session fragment.first fragment.txns ∷ []) in
        subst (λ m. AreHalvesFrom t m (session_of (with_session parts.remain (split_of fragment)) t)) (sym (get_or_past (parts.base.marks ++ 0 ∷ []) t 0 (omega (arith, one, more, sessions))))
        (subst (λ (hs : List Txn). AreHalvesFrom t 0 hs) (sym (get_or_past (parts.remain ++ split_txns fragment.session fragment.first fragment.txns ∷ []) t [] (omega (arith, other, more)))) (none_from t))

    not_before : count ≤ t → AreHalvesFrom t (slice_index (parts.base.marks ++ 0 ∷ []) t) (session_of (with_session parts.remain (split_of fragment)) t)
    not_before least =
        ⊎_elim (λ same. subst (λ k. AreHalvesFrom k (slice_index (parts.base.marks ++ 0 ∷ []) k) (session_of (with_session parts.remain (split_of fragment)) k)) (sym same.1) at_end)
        (λ other. past (omega (arith, least, other.1))) (eqb_tells t count)

-- ---- which keys halves write

star_key : (key k : ℕ) → key ≡ star k → (key ≡ 0) ⊎ (2 ^ 63 < key)
star_key key k is = by_zero (eqb_tells k 0)
  where
    by_zero : ((nat_eq k 0 ≡ true) × (k ≡ 0)) ⊎ ((nat_eq k 0 ≡ false) × (k ≡ 0 → ⊥)) → (key ≡ 0) ⊎ (2 ^ 63 < key)
    by_zero (inl x) = inl (is ∙ ap (λ t. cond t 0 (k + 2 ^ 63)) x.0)
    by_zero (inr x) = let high : star k ≡ k + 2 ^ 63 = ap (λ t. cond t 0 (k + 2 ^ 63)) x.0 in inr (omega (arith, is, high, x.1))

star_keys : (keys : List ℕ) (key : ℕ) → list_any (nat_eq key) (map star keys) ≡ true → (key ≡ 0) ⊎ (2 ^ 63 < key)
star_keys [] key any = absurd (false≢true any)
star_keys (k ∷ keys) key any =
    ⊎_elim (λ same. star_key key k same.1) (λ other. star_keys keys key (ap (λ t. t || list_any (nat_eq key) (map star keys)) (sym other.0) ∙ any)) (eqb_tells key (star k))

low_keys : (keys : List ℕ) (key : ℕ) → All (λ k. k < 2 ^ 63) keys → list_any (nat_eq key) keys ≡ true → key < 2 ^ 63
low_keys [] key low any = absurd (false≢true any)
low_keys (k ∷ keys) key low any =
    ⊎_elim (λ same. subst (λ n. n < 2 ^ 63) (sym same.1) (All-head (λ k. k < 2 ^ 63) k keys low))
    (λ other. low_keys keys key (All-tail (λ k. k < 2 ^ 63) k keys low) (ap (λ t. t || list_any (nat_eq key) keys) (sym other.0) ∙ any)) (eqb_tells key k)

-- that at an even place is a begin, and one at an odd place a commit
abbrev WritesAt : ℕ → ℕ → Type 0
WritesAt place key = ((place % 2 ≡ 1) × (key < 2 ^ 63)) ⊎ ((place % 2 ≡ 0) × ((key ≡ 0) ⊎ (2 ^ 63 < key)))

two_on : (place key : ℕ) → WritesAt place key → WritesAt (suc (suc place)) key
two_on place key (inl odd) = inl (let is = odd.0 in omega (arith, is), odd.1)
two_on place key (inr even) = inr (let is = even.0 in omega (arith, is), even.1)

half_keys : (s number : ℕ) (txns : List Txn) (place key : ℕ) → All HasLowNumbers txns → writes_key (slice_get (split_txns s number txns) place) key ≡ true → WritesAt place key
half_keys s number [] place key low any = absurd (false≢true any)
half_keys s number (txn ∷ txns) zero key low any = inr (refl, star_keys txn.writes key any)
half_keys s number (txn ∷ txns) (suc zero) key low any = inl (refl, low_keys txn.writes key (All-head HasLowNumbers txn txns low).writes any)
half_keys s number (txn ∷ txns) (suc (suc place)) key low any = two_on place key (half_keys s (number + 1) txns place key (All-tail HasLowNumbers txn txns low) any)

get_at : {X : Type 0} (n : ℕ) (xs : List X) (i k : ℕ) → k ≡ i + n → slice_get (drop n xs) i ≡ slice_get xs k
get_at zero xs i k is = let same : i ≡ k = omega (arith, is) in ap (λ j. slice_get xs j) same
get_at (suc n) xs i zero is = absurd (omega (arith, is))
get_at (suc n) [] i (suc k) is = refl
get_at (suc n) (x ∷ xs) i (suc k) is = get_at n xs i k (omega (arith, is))

get_dropped : {X : Type 0} (n : ℕ) (xs : List X) (i : ℕ) → slice_get (drop n xs) i ≡ slice_get xs (i + n)
get_dropped n xs i = get_at n xs i (i + n) refl

key_of : (parts : Parts) → Remain parts → (half : TxnId) (key : ℕ) → WritesKey parts half key → IsKeyOf half key
key_of parts are half key writes = ⊎_elim gone remains (cases_lt half.number (mark_of parts half.session))
  where
    mark : ℕ
    mark = mark_of parts half.session

    here : AreHalvesFrom half.session mark (remaining_of parts half.session)
    here = are half.session

    gone : half.number < mark → IsKeyOf half key
    gone below =
        let none : nat_lt half.number mark ≡ true = ⊎_elim (λ yes. yes.0) (λ no. absurd (omega (arith, no.1, below))) (leb_tells (suc half.number) mark) in
        absurd (false≢true (ap (λ b. writes_key (cond b None (slice_get (remaining_of parts half.session) (half.number - mark))) key) (sym none) ∙ writes))

    remains : mark ≤ half.number → IsKeyOf half key
    remains above =
        let there : nat_lt half.number mark ≡ false = ⊎_elim (λ yes. absurd (omega (arith, above, yes.1))) (λ no. no.0) (leb_tells (suc half.number) mark) in
        let at : writes_key (slice_get (remaining_of parts half.session) (half.number - mark)) key ≡ true = ap (λ b. writes_key (cond b None (slice_get (remaining_of parts half.session) (half.number - mark))) key) (sym there) ∙ writes in
        let place : ℕ = half.number - mark + mark % 2 in
        let whole : writes_key (slice_get (split_txns half.session (mark / 2) here.txns) place) key ≡ true =
        ap (λ (o : Option Txn). writes_key o key) (sym (get_dropped (mark % 2) (split_txns half.session (mark / 2) here.txns) (half.number - mark)))
        ∙ ap (λ (hs : List Txn). writes_key (slice_get hs (half.number - mark)) key) (sym here.are) ∙ at in
        named (half_keys half.session (mark / 2) here.txns place key here.low whole)
      where
        named : WritesAt (half.number - mark + mark % 2) key → IsKeyOf half key
        named (inl odd) = inl (let is = odd.0 in omega (arith, above, is), odd.1)
        named (inr even) = inr (let is = even.0 in omega (arith, above, is), even.1)

-- ---- cuts

found_keys : (parts : Parts) (fence : TxnId) (gone : List TxnId) (last : FinMap nat_cmp TxnId) → Remain parts → IsCutAt parts fence gone last → HaveHalfKeys last
found_keys parts fence gone last are cut key half at = key_of parts are half key ((cut.last_of key half).0 at).written

held_after : (parts : Parts) (kind : Kind) (old new : Option Cut) → Remain parts → ((cut : Cut) → old ≡ Some cut → HaveHalfKeys cut.last) → IsHeldAfter parts kind old new → (cut : Cut) → new ≡ Some cut → HaveHalfKeys cut.last
held_after parts Serial old new are before after cut is =
    let found : IsFound parts (Some cut) = subst (λ (o : Option Cut). IsFound parts o) is after in found_keys parts cut.fence cut.gone cut.last are found.1
held_after parts Pending old new are before after cut is =
    let found : IsFound parts (Some cut) = subst (λ (o : Option Cut). IsFound parts o) is after in found_keys parts cut.fence cut.gone cut.last are found.1
held_after parts Violated old new are before after cut is = before cut (sym after ∙ is)
held_after parts Spent old new are before after cut is = before cut (sym after ∙ is)

either_has : (first second : Option TxnId) (half : TxnId) → or_else first second ≡ Some half → (first ≡ Some half) ⊎ (second ≡ Some half)
either_has None second half is = inr is
either_has (Some writer) second half is = inl is

cut_keys : (old new : Parts) (gone : List TxnId) (last : FinMap nat_cmp TxnId) → IsCutOf old new gone last → HaveHalfKeys last → HaveHalfKeys old.base.last → HaveHalfKeys new.base.last
cut_keys old new gone last cut cut_has old_has key half at =
    ⊎_elim (λ (one : get last key ≡ Some half). cut_has key half one) (λ (other : get old.base.last key ≡ Some half). old_has key half other) (either_has (get last key) (get old.base.last key) half (sym (cut.writers key) ∙ at))

cut_parts : (old new : Parts) (gone : List TxnId) (last : FinMap nat_cmp TxnId) → IsCutOf old new gone last → HaveHalfKeys last → AreSplitParts old → AreSplitParts new
cut_parts old new gone last cut has are = record {
  sessions = cut.marks_length ∙ are.sessions ∙ sym cut.sessions;
  remain = λ s.
      subst (λ m. AreHalvesFrom s m (remaining_of new s)) (sym (cut.marks s))
      (subst (λ (hs : List Txn). AreHalvesFrom s (mark_of old s + count_in gone s) hs) (sym (cut.remain s)) (cut_from s (mark_of old s) (count_in gone s) (remaining_of old s) (are.remain s)));
  last = cut_keys old new gone last cut has are.last;
}

-- ---- steps

none_or_some : {X : Type 0} (x : X) → None ≡ Some x → ⊥
none_or_some x e = cc

no_asked : (asked : Option Parts) → asked ≡ None → (parts : Parts) → asked ≡ Some parts → AreSplitParts parts
no_asked asked none parts some = absurd (none_or_some parts (sym none ∙ some))

no_held : (held : Option Cut) → held ≡ None → (cut : Cut) → held ≡ Some cut → HaveHalfKeys cut.last
no_held held none cut some = absurd (none_or_some cut (sym none ∙ some))

kept : (old new : EngineState) → new ≡ old → IsSplitEngine old → IsSplitEngine new
kept old new same is = subst IsSplitEngine (sym same) is

set_length : {X : Type 0} (xs : List X) (s : ℕ) (x : X) → length (slice_set xs s x) ≡ length xs
set_length [] s x = refl
set_length (y ∷ ys) zero x = refl
set_length (y ∷ ys) (suc s) x = ap suc (set_length ys s x)

offered : (old : EngineState) (fragment : Fragment) → All HasLowNumbers fragment.txns → IsAdmitted old.parts (split_of fragment) → IsSplitEngine old → IsSplitEngine (engine_offered old (split_of fragment))
offered old fragment low admitted is = record {
  parts = record {
    sessions = is.parts.sessions ∙ sym (set_length old.parts.remain fragment.session _);
    remain = more_remain old.parts fragment is.parts.remain admitted.next.session.0 low admitted.next.next;
    last = is.parts.last;
  };
  asked = is.asked;
  held = is.held;
}

joined_parts : (parts : Parts) (fragment : Fragment) (test : Bool) → nat_eq fragment.session (length parts.remain) ≡ test → All HasLowNumbers fragment.txns → IsLetIn parts (split_of fragment) → AreSplitParts parts → AreSplitParts (parts_after parts (cond test (Joins (split_of fragment)) (Returns (split_of fragment))))
joined_parts parts fragment true is low let_in are =
    let new : fragment.session ≡ length parts.remain = ⊎_elim (λ same. same.1) (λ other. absurd (false≢true (sym other.0 ∙ is))) (eqb_tells fragment.session (length parts.remain)) in
    record {
      sessions = length-append parts.base.marks (0 ∷ []) ∙ ap (λ n. n + 1) are.sessions ∙ sym (length-append parts.remain (split_txns fragment.session fragment.first fragment.txns ∷ []));
      remain = joined_remain parts fragment are.sessions are.remain new low let_in.next;
      last = are.last;
    }
joined_parts parts fragment false is low let_in are =
    let other : fragment.session ≢ length parts.remain = λ same. absurd (⊎_elim (λ yes. false≢true (sym is ∙ yes.0)) (λ no. no.1 same) (eqb_tells fragment.session (length parts.remain))) in
    let within : fragment.session < length parts.remain = ⊎_elim (λ new. absurd (other new)) (λ closed. closed.0.0) let_in.session in
    record {
      sessions = are.sessions ∙ sym (set_length parts.remain fragment.session _);
      remain = more_remain parts fragment are.remain within low let_in.next;
      last = are.last;
    }

joined : (old : EngineState) (fragment : Fragment) → All HasLowNumbers fragment.txns → IsLetIn old.parts (split_of fragment) → IsSplitEngine old → IsSplitEngine (engine_joined old (split_of fragment))
joined old fragment low let_in is = record {
  parts = joined_parts old.parts fragment (nat_eq fragment.session (length old.parts.remain)) refl low let_in is.parts;
  asked = is.asked;
  held = no_held None refl;
}

finished : (old new : EngineState) (asked : Option Parts) (kind : Kind) → old.asked ≡ asked → IsSomeAnd asked (λ parts. IsHeldAfter parts kind old.held new.held) → IsFinished old new → IsSplitEngine old → IsSplitEngine new
finished old new None kind same held fin is = absurd held
finished old new (Some parts) kind same held fin is = record {
  parts = subst AreSplitParts (sym fin.parts) is.parts;
  asked = no_asked new.asked fin.none_open;
  held = held_after parts kind old.held new.held (is.asked parts same).remain is.held held;
}

only_held : (P Q : Parts → Type 0) (asked : Option Parts) → IsSomeAnd asked (λ parts. P parts × Q parts) → IsSomeAnd asked Q
only_held P Q None both = absurd both
only_held P Q (Some parts) both = both.1

truncated : (old new : EngineState) (cut : Cut) → IsTruncated old cut new → IsSplitEngine old → IsSplitEngine new
truncated old new cut steps is = record {
  parts = cut_parts old.parts new.parts cut.gone cut.last steps.parts (is.held cut steps.held) is.parts;
  asked = no_asked new.asked (ap (λ (e : EngineState). e.asked) steps.rest ∙ steps.none_open);
  held = no_held new.held (ap (λ (e : EngineState). e.held) steps.rest);
}

begun : (old : EngineState) → IsSplitEngine old → (parts : Parts) → Some old.parts ≡ Some parts → AreSplitParts parts
begun old is parts some = let same : old.parts ≡ parts = cc in subst AreSplitParts same is.parts

module _ (keeps : SplitKeepsEffects) (can : EffectsCanBeSplit) where
  taken_in : (sessions : ℕ) (old new : EngineState) (logged : LoggedFragment) → CanBeOffered sessions logged.fragment → StepsTo old (Offer (split_logged logged)) reply.Done new → IsSplitEngine old → IsSplitEngine new
  taken_in sessions old new logged made steps is =
      let same = keeps logged in
      subst IsSplitEngine (sym (steps.2 ∙ ap (engine_offered old) same))
      (offered old (effects logged) (can sessions logged made.splittable).each (subst (IsAdmitted old.parts) same steps.1) is)

  let_in : (sessions : ℕ) (old new : EngineState) (logged : LoggedFragment) → CanBeOffered sessions logged.fragment → StepsTo old (Join (split_logged logged)) reply.Done new → IsSplitEngine old → IsSplitEngine new
  let_in sessions old new logged made steps is =
      let same = keeps logged in
      subst IsSplitEngine (sym (steps.3 ∙ ap (engine_joined old) same))
      (joined old (effects logged) (can sessions logged made.splittable).each (subst (IsLetIn old.parts) same steps.2) is)

  pub stay : SplitEnginesStay
  stay sessions old new (Offer logged) reply.Done made steps is = taken_in sessions old new logged made steps is
  stay sessions old new (Offer logged) (reply.Refused refusal) made steps is = kept old new steps.1 is
  stay sessions old new (Offer logged) (reply.Report report) made steps is = absurd steps
  stay sessions old new (Offer logged) (reply.Cut cut) made steps is = absurd steps
  stay sessions old new (Join logged) reply.Done made steps is = let_in sessions old new logged made steps is
  stay sessions old new (Join logged) (reply.Refused refusal) made steps is = kept old new steps.1 is
  stay sessions old new (Join logged) (reply.Report report) made steps is = absurd steps
  stay sessions old new (Join logged) (reply.Cut cut) made steps is = absurd steps
  stay sessions old new (Close s) reply.Done made steps is =
      subst IsSplitEngine (sym steps.1) (record { parts = record { sessions = is.parts.sessions; remain = is.parts.remain; last = is.parts.last }; asked = is.asked; held = is.held })
  stay sessions old new (Close s) (reply.Refused refusal) made steps is = kept old new steps.1 is
  stay sessions old new (Close s) (reply.Report report) made steps is = absurd steps
  stay sessions old new (Close s) (reply.Cut cut) made steps is = absurd steps
  stay sessions old new Begin reply.Done made steps is = subst IsSplitEngine (sym steps.1) (record { parts = is.parts; asked = begun old is; held = is.held })
  stay sessions old new Begin (reply.Refused refusal) made steps is = kept old new steps.1 is
  stay sessions old new Begin (reply.Report report) made steps is = absurd steps
  stay sessions old new Begin (reply.Cut cut) made steps is = absurd steps
  stay sessions old new (Finish budget depth workers) (reply.Report report) made steps is = finished old new old.asked report.kind refl (only_held _ (λ parts. IsHeldAfter parts report.kind old.held new.held) old.asked steps.0) steps.1 is
  stay sessions old new (Finish budget depth workers) (reply.Refused refusal) made steps is = kept old new steps.1 is
  stay sessions old new (Finish budget depth workers) reply.Done made steps is = absurd steps
  stay sessions old new (Finish budget depth workers) (reply.Cut cut) made steps is = absurd steps
  stay sessions old new (Judge claim) (reply.Report report) made steps is = finished old new old.asked report.kind refl (only_held _ (λ parts. IsHeldAfter parts report.kind old.held new.held) old.asked steps.0) steps.1 is
  stay sessions old new (Judge claim) (reply.Refused refusal) made steps is = kept old new steps.1 is
  stay sessions old new (Judge claim) reply.Done made steps is = absurd steps
  stay sessions old new (Judge claim) (reply.Cut cut) made steps is = absurd steps
  stay sessions old new Abandon reply.Done made steps is = subst IsSplitEngine (sym steps.1) (record { parts = is.parts; asked = no_asked None refl; held = is.held })
  stay sessions old new Abandon (reply.Refused refusal) made steps is = kept old new steps.1 is
  stay sessions old new Abandon (reply.Report report) made steps is = absurd steps
  stay sessions old new Abandon (reply.Cut cut) made steps is = absurd steps
  stay sessions old new Truncate (reply.Cut cut) made steps is = truncated old new cut steps is
  stay sessions old new Truncate (reply.Refused refusal) made steps is = kept old new steps.1 is
  stay sessions old new Truncate reply.Done made steps is = absurd steps
  stay sessions old new Truncate (reply.Report report) made steps is = absurd steps
  stay sessions old new Rebuild reply.Done made steps is = subst IsSplitEngine (sym steps.1) (record { parts = is.parts; asked = no_asked None refl; held = no_held None refl })
  stay sessions old new Rebuild (reply.Refused refusal) made steps is = kept old new steps.1 is
  stay sessions old new Rebuild (reply.Report report) made steps is = absurd steps
  stay sessions old new Rebuild (reply.Cut cut) made steps is = absurd steps
