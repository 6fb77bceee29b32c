-- What a cut takes out of each session.
use Rattle.std.proofs.Common.{◌≡◌, ℕ, ◌+◌, ◌-◌, ◌<◌, ◌≤◌, ◌⊎◌, Bool, true, false, List, [], ◌∷◌, length, get_or, filter, drop, Some, None, Option, refl, sym, subst, ◌∙◌, inl, inr, arith, suc, zero, ap, IsSome, nat_cmp, nat_eq, nat_lt, ◌||◌, ◌&&◌}
use Rattle.std.specs.Prelude.{Contains, IsSomeAnd}
use Rattle.std.specs.List.{slice_get}
use Rattle.std.specs.FinMap.{FinMap}
use Rattle.std.proofs.lemmas.Bool.{false≢true, cases_lt, eq-eqb, eqb-true, and_parts, ltb-true}
use Rattle.std.proofs.lemmas.List.Sums.{length-filter}
use Rattle.std.proofs.lemmas.Option.{slice_get_within, get_or_from_slice_get, slice_get_past}
use Rattle.list_lemmas.proofs.Places.{filtered_at, precedes_filtered, at_filter, IsAt, within_some}
use Rattle.list_lemmas.specs.Precedes.{Precedes}
use Rattle.txn.specs.declared.transactions.TxnId.{TxnId}
use Rattle.txn.specs.declared.transactions.Txn.{Txn}
use Rattle.txn.specs.declared.transactions.Source.TheVariants.{By}
use Rattle.txn.specs.Transactions.{IsFence, id_below, Rises}
use Rattle.txn.specs.History.{in_session}
use Rattle.order_check.specs.declared.remainder.Parts.{Parts}
use Rattle.order_check.specs.Based.{mark_of, remaining_of, remaining_at, Remains, IsGone}
use Rattle.order_check.specs.Known.{Known, by_session, by_read, by_base, by_taken, through, forces_after, forces_before}
use Rattle.order_check.specs.Settled.{IsSettled, IsCutAt, IsCutOf, InFront, count_in}
use Rattle.order_check.specs.Cuts.{IsFront}
use Rattle.order_check.proofs.CutReads.{CutLooks}
use Rattle.order_check.proofs.Fenced.{at_place, mark_same}
use Rattle.order_check.proofs.OrderLaws.{in_own_session, writer_remains, reader_remains}
use Rattle.order_check.proofs.Received.{look_up, gone_past}
use Rattle.order_check.proofs.Remaining.{remaining_place}

-- the ids of a session, the first of which has this number, that go up by one
abbrev pub AreFrom : ℕ → ℕ → List TxnId → Type 0
AreFrom s first ids = (k : ℕ) (id : TxnId) → slice_get ids k ≡ Some id → (id.session ≡ s) × (id.number ≡ first + k)

-- ids of one session whose numbers rise, which leave out no number from the first on
pub record LeavesNoGap (s first : ℕ) (ids : List TxnId) : Type 0 where
  pub session : (id : TxnId) → IsAt ids id → id.session ≡ s
  pub low : (id : TxnId) → IsAt ids id → first ≤ id.number
  pub rise : (a b : TxnId) → Precedes ids a b → a.number < b.number
  pub whole : (id : TxnId) (n : ℕ) → IsAt ids id → first ≤ n → n < id.number → IsAt ids (record { session = s; number = n })

pub are_from : (s first : ℕ) (ids : List TxnId) → LeavesNoGap s first ids → AreFrom s first ids
are_from s first ids gaps zero id at = (gaps.session id (0, at), by_case (cases_lt first id.number))
  where
    by_case : (first < id.number) ⊎ (id.number ≤ first) → id.number ≡ first + 0
    by_case (inr low) = let up = gaps.low id (0, at) in omega arith
    by_case (inl more) = by_place (gaps.whole id first (0, at) (omega arith) more)
      where
        by_place : IsAt ids (record { session = s; number = first }) → id.number ≡ first + 0
        by_place (zero, here) = let e : id ≡ record { session = s; number = first } = cc in let n = ap (λ (x : TxnId). x.number) e in omega arith
        by_place (suc j, here) = let below = gaps.rise id (record { session = s; number = first }) (0, suc j, omega arith, at, here) in absurd (omega arith)
are_from s first ids gaps (suc k) id at = by_before (slice_get ids k) refl (are_from s first ids gaps k)
  where
    by_before : (o : Option TxnId) → slice_get ids k ≡ o → ((b : TxnId) → slice_get ids k ≡ Some b → (b.session ≡ s) × (b.number ≡ first + k)) → (id.session ≡ s) × (id.number ≡ first + suc k)
    by_before None none before = let within = slice_get_within ids (suc k) id at in absurd (let some = within_some ids k (omega arith) in false≢true (ap (λ o. Rattle.std.specs.Option.is_some o) (sym none) ∙ some))
    by_before (Some b) here before = (gaps.session id (suc k, at), by_case (cases_lt (first + suc k) id.number))
      where
        n : b.number ≡ first + k
        n = (before b here).1

        up : b.number < id.number
        up = gaps.rise b id (k, suc k, omega arith, here, at)

        by_case : (first + suc k < id.number) ⊎ (id.number ≤ first + suc k) → id.number ≡ first + suc k
        by_case (inr low) = omega (arith, n, up)
        by_case (inl more) = by_place (gaps.whole id (first + suc k) (suc k, at) (omega arith) more)
          where
            by_place : IsAt ids (record { session = s; number = first + suc k }) → id.number ≡ first + suc k
            by_place (j, there) = by_order (cases_lt j (suc k)) (cases_lt (suc k) j)
              where
                by_low : j < suc k → j ≡ k ⊎ j < k
                by_low l = by_eq (cases_lt j k)
                  where
                    by_eq : (j < k) ⊎ (k ≤ j) → (j ≡ k) ⊎ (j < k)
                    by_eq (inl m) = inr m
                    by_eq (inr m) = inl (omega arith)

                by_order : (j < suc k) ⊎ (suc k ≤ j) → (suc k < j) ⊎ (j ≤ suc k) → id.number ≡ first + suc k
                by_order (inl l) m = by_part (by_low l)
                  where
                    by_part : (j ≡ k) ⊎ (j < k) → id.number ≡ first + suc k
                    by_part (inl e) = let same : slice_get ids k ≡ Some (record { session = s; number = first + suc k }) = subst (λ i. slice_get ids i ≡ Some (record { session = s; number = first + suc k })) e there in let f : b ≡ record { session = s; number = first + suc k } = cc in let g = ap (λ (x : TxnId). x.number) f in absurd (omega (arith, n, g))
                    by_part (inr m) = let below = gaps.rise (record { session = s; number = first + suc k }) b (j, k, m, there, here) in absurd (omega (arith, n, below))
                by_order (inr l) (inl m) = let below = gaps.rise id (record { session = s; number = first + suc k }) (suc k, j, m, at, there) in absurd (omega (arith, below))
                by_order (inr l) (inr m) = let e : j ≡ suc k = omega arith in let same : slice_get ids (suc k) ≡ Some (record { session = s; number = first + suc k }) = subst (λ i. slice_get ids i ≡ Some (record { session = s; number = first + suc k })) e there in let f : id ≡ record { session = s; number = first + suc k } = cc in ap (λ (x : TxnId). x.number) f

-- ids in order, as a fact about numbers
abbrev IsBelow : TxnId → TxnId → Type 0
IsBelow a b = (a.session < b.session) ⊎ ((a.session ≡ b.session) × (a.number < b.number))

below_cases : (a b : TxnId) → id_below a b ≡ true → IsBelow a b
below_cases a b h = by_first (nat_lt a.session b.session) refl h
  where
    by_first : (t : Bool) → nat_lt a.session b.session ≡ t → (t || (nat_eq a.session b.session && nat_lt a.number b.number)) ≡ true → IsBelow a b
    by_first true e h = inl (ltb-true a.session b.session e)
    by_first false e h = let both = and_parts (nat_eq a.session b.session) (nat_lt a.number b.number) h in inr (eqb-true a.session b.session both.0, ltb-true a.number b.number both.1)

below_through : (a b d : TxnId) → IsBelow a b → IsBelow b d → IsBelow a d
below_through a b d (inl l) (inl m) = inl (omega arith)
below_through a b d (inl l) (inr (e, m)) = inl (omega arith)
below_through a b d (inr (e, l)) (inl m) = inl (omega arith)
below_through a b d (inr (e, l)) (inr (f, m)) = inr (omega arith, omega arith)

rises_pair : (ids : List TxnId) → Rises id_below ids → (i n : ℕ) (d : TxnId) → i + suc n < length ids → IsBelow (get_or ids i d) (get_or ids (i + suc n) d)
rises_pair ids rise i zero d within = let e : i + 1 ≡ i + 1 = refl in below_cases (get_or ids i d) (get_or ids (i + 1) d) (rise i d (omega arith))
rises_pair ids rise i (suc n) d within =
    let e : i + suc n + 1 ≡ i + suc (suc n) = omega arith in
    let step = below_cases (get_or ids (i + suc n) d) (get_or ids (i + suc n + 1) d) (rise (i + suc n) d (omega arith)) in
    below_through (get_or ids i d) (get_or ids (i + suc n) d) (get_or ids (i + suc (suc n)) d) (rises_pair ids rise i n d (omega arith)) (subst (λ k. IsBelow (get_or ids (i + suc n) d) (get_or ids k d)) e step)

rises_below : (ids : List TxnId) → Rises id_below ids → (a b : TxnId) → Precedes ids a b → IsBelow a b
rises_below ids rise a b (i, j, below, here, there) =
    let n = j - i - 1 in
    let e : i + suc n ≡ j = omega arith in
    let within = slice_get_within ids j b there in
    let pair = rises_pair ids rise i n a (omega arith) in
    let first : get_or ids i a ≡ a = get_or_from_slice_get ids i a a here in
    let second : get_or ids (i + suc n) a ≡ b = ap (λ k. get_or ids k a) e ∙ get_or_from_slice_get ids j b a there in
    subst (λ x. IsBelow x b) first (subst (λ y. IsBelow (get_or ids i a) y) second pair)

-- what a filter keeps passes
filter_passes : {X : Type 0} (p : X → Bool) (xs : List X) (a : X) → IsAt (filter p xs) a → p a ≡ true
filter_passes p [] a (k, h) = absurd cc
filter_passes {X} p (x ∷ xs) a h = by_test (p x) refl h (filter_passes p xs a)
  where
    by_test : (t : Bool) → p x ≡ t → IsAt (Rattle.std.proofs.Common.cond t (x ∷ filter p xs) (filter p xs)) a → (IsAt (filter p xs) a → p a ≡ true) → p a ≡ true
    by_test true e (zero, at) rest = let same : x ≡ a = cc in ap p (sym same) ∙ e
    by_test true e (suc k, at) rest = rest (k, at)
    by_test false e at rest = rest at

pub at_contains : (ids : List TxnId) (id : TxnId) → IsAt ids id → Contains ids id
at_contains ids id (k, at) = (k, slice_get_within ids k id at, get_or_from_slice_get ids k id id at)

-- what is known to come before or after remains
pub known_remain : (parts : Parts) (a b : TxnId) → Known parts [] a b → Remains parts a × Remains parts b
known_remain parts a b (by_session ra rb same below) = (ra, rb)
known_remain parts a b (by_read key reads writes) = (writer_remains parts a key writes, reader_remains parts b key (By a) reads)
known_remain parts a b (by_base key (source, reads, of) writes apart) = (reader_remains parts a key source reads, writer_remains parts b key writes)
known_remain parts a b (by_taken (k, within, at)) = absurd (omega arith)
known_remain parts a b (through {b = m} first second) = ((known_remain parts a m first).0, (known_remain parts m b second).1)
known_remain parts a b (forces_after choice is known) = (reader_remains parts choice.reader choice.key (By choice.writer) is.reads, writer_remains parts choice.other choice.key is.other)
known_remain parts a b (forces_before choice is known) = (writer_remains parts choice.other choice.key is.other, writer_remains parts choice.writer choice.key is.written)

pub fronts_remain : (parts : Parts) (fence id : TxnId) → IsSomeAnd (remaining_at parts fence) IsFence → InFront parts fence id → Remains parts id
fronts_remain parts fence id some (inl same) = subst (λ x. Remains parts x) (sym same) (by_found (remaining_at parts fence) some)
  where
    by_found : (found : Option Txn) → IsSomeAnd found IsFence → IsSome found
    by_found None h = absurd h
    by_found (Some txn) h = refl
fronts_remain parts fence id some (inr before) = (known_remain parts id fence before).0

-- the gone of a session leave out none of its numbers
pub gone_without_gap : (front : Parts) (fence : TxnId) (gone : List TxnId) (last : FinMap nat_cmp TxnId) (is_open : ℕ → Type 0) (s : ℕ) → IsSettled front is_open fence → IsCutAt front fence gone last → LeavesNoGap s (mark_of front s) (filter (in_session s) gone)
gone_without_gap front fence gone last is_open s settled cut = record {
  session = of;
  low = λ id at. subst (λ q. mark_of front q ≤ id.number) (of id at) (place_of id (remains_of id (in_gone id at))).0;
  rise = λ a b p.
      let pa = of a (first_at p) in
      let pb = of b (second_at p) in
      same_session a b (pa ∙ sym pb) (rises_below gone cut.rise a b (precedes_filtered (in_session s) gone a b p));
  whole = λ id n at low below.
      let here = in_gone id at in
      let r = remains_of id here in
      let other : TxnId = record { session = s; number = n } in
      let there : Remains front other = before_remains id other r (sym (of id at)) low below in
      let known : Known front [] other id = by_session there r (sym (of id at)) below in
      let in_it : Contains gone other = (cut.front other).1 (in_front_of id other known ((cut.front id).0 here)) in
      at_filter (in_session s) gone other (eq-eqb s s refl) (at_place gone other in_it);
}
  where
    of : (id : TxnId) → IsAt (filter (in_session s) gone) id → id.session ≡ s
    of id at = sym (eqb-true s id.session (filter_passes (in_session s) gone id at))

    in_gone : (id : TxnId) → IsAt (filter (in_session s) gone) id → Contains gone id
    in_gone id at = at_contains gone id (filtered_at (in_session s) gone id at)

    remains_of : (id : TxnId) → Contains gone id → Remains front id
    remains_of id has = fronts_remain front fence id settled.remains ((cut.front id).0 has)

    place_of : (id : TxnId) → Remains front id → (mark_of front id.session ≤ id.number) × (id.number - mark_of front id.session < length (remaining_of front id.session))
    place_of id r = by_found (remaining_at front id) refl r
      where
        by_found : (found : Option Txn) → remaining_at front id ≡ found → IsSome found → (mark_of front id.session ≤ id.number) × (id.number - mark_of front id.session < length (remaining_of front id.session))
        by_found None e some = absurd (false≢true some)
        by_found (Some txn) e some = let at = remaining_place front id txn e in (at.0, slice_get_within (remaining_of front id.session) (id.number - mark_of front id.session) txn at.1)

    before_remains : (id other : TxnId) → Remains front id → other.session ≡ id.session → mark_of front other.session ≤ other.number → other.number < id.number → Remains front other
    before_remains id other r same low below =
        let place = place_of id r in
        let marks : mark_of front other.session ≡ mark_of front id.session = ap (mark_of front) same in
        let lengths : length (remaining_of front other.session) ≡ length (remaining_of front id.session) = ap (λ q. length (remaining_of front q)) same in
        subst (λ o. IsSome o) (sym (look_up front other low)) (within_some (remaining_of front other.session) (other.number - mark_of front other.session) (omega (arith, place.0, place.1, marks, lengths)))

    in_front_of : (id other : TxnId) → Known front [] other id → InFront front fence id → InFront front fence other
    in_front_of id other known (inl same) = inr (subst (λ x. Known front [] other x) same known)
    in_front_of id other known (inr before) = inr (through known before)

    first_at : {a b : TxnId} → Precedes (filter (in_session s) gone) a b → IsAt (filter (in_session s) gone) a
    first_at (i, j, below, here, there) = (i, here)

    second_at : {a b : TxnId} → Precedes (filter (in_session s) gone) a b → IsAt (filter (in_session s) gone) b
    second_at (i, j, below, here, there) = (j, there)

    same_session : (a b : TxnId) → a.session ≡ b.session → IsBelow a b → a.number < b.number
    same_session a b same (inl l) = absurd (omega arith)
    same_session a b same (inr (e, l)) = l

pub drop_at : {X : Type 0} (xs : List X) (n k : ℕ) → slice_get (drop n xs) k ≡ slice_get xs (n + k)
drop_at [] zero k = refl
drop_at [] (suc n) k = sym (slice_get_past [] (suc n + k) (omega arith)) ∙ refl
drop_at (x ∷ xs) zero k = let e : 0 + k ≡ k = omega arith in rw e refl
drop_at (x ∷ xs) (suc n) k = let e : suc n + k ≡ suc (n + k) = omega arith in rw e (drop_at xs n k)

-- what the parts after the cut have and lack
pub cut_looks : (front whole new : Parts) (fence : TxnId) (gone : List TxnId) (last : FinMap nat_cmp TxnId) (is_open : ℕ → Type 0) → IsFront front whole → IsSettled front is_open fence → IsCutAt front fence gone last → IsCutOf whole new gone last → CutLooks whole new gone
cut_looks front whole new fence gone last is_open is settled cut leaves = record {
  gone_new = λ id has. let place = gone_place id has in let m = marks id.session in omega (arith, place.1, m);
  still_gone = λ id was. let m = marks id.session in omega (arith, m);
  new_gone = λ id now. by_mark id now (cases_lt id.number (mark_of whole id.session));
  same = λ id remains out. same_look id (above id remains out);
  new_remains = λ id remains. by_new id remains;
}
  where
    of : ℕ → List TxnId
    of s = filter (in_session s) gone

    counted : (s : ℕ) → count_in gone s ≡ length (of s)
    counted s = sym (length-filter (in_session s) gone)

    marks : (s : ℕ) → mark_of new s ≡ mark_of whole s + length (of s)
    marks s = leaves.marks s ∙ ap (λ n. mark_of whole s + n) (counted s)

    from : (s : ℕ) → AreFrom s (mark_of whole s) (of s)
    from s = subst (λ m. AreFrom s m (of s)) (mark_same front whole is s) (are_from s (mark_of front s) (of s) (gone_without_gap front fence gone last is_open s settled cut))

    gone_place : (id : TxnId) → Contains gone id → (mark_of whole id.session ≤ id.number) × (id.number < mark_of whole id.session + length (of id.session))
    gone_place id has = by_place (at_filter (in_session id.session) gone id (in_own_session id) (at_place gone id has))
      where
        by_place : IsAt (of id.session) id → (mark_of whole id.session ≤ id.number) × (id.number < mark_of whole id.session + length (of id.session))
        by_place (k, at) = let n = (from id.session k id at).1 in let within = slice_get_within (of id.session) k id at in (omega (arith, n), omega (arith, n, within))

    by_mark : (id : TxnId) → IsGone new id → (id.number < mark_of whole id.session) ⊎ (mark_of whole id.session ≤ id.number) → IsGone whole id ⊎ Contains gone id
    by_mark id now (inl was) = inl was
    by_mark id now (inr over) =
        let m = marks id.session in
        let k = id.number - mark_of whole id.session in
        inr (by_found (slice_get (of id.session) k) refl (within_some (of id.session) k (omega (arith, m))))
      where
        by_found : (o : Option TxnId) → slice_get (of id.session) (id.number - mark_of whole id.session) ≡ o → IsSome o → Contains gone id
        by_found None e some = absurd (false≢true some)
        by_found (Some y) e some =
            let is_y = from id.session (id.number - mark_of whole id.session) y e in
            let n : y.number ≡ id.number = omega (arith, is_y.1) in
            let same : y ≡ id = λ i. record { session = is_y.0 i; number = n i } in
            at_contains gone id (filtered_at (in_session id.session) gone id (id.number - mark_of whole id.session, e ∙ ap Some same))

    above : (id : TxnId) → Remains whole id → (¬ Contains gone id) → mark_of new id.session ≤ id.number
    above id remains out = by_case (cases_lt id.number (mark_of new id.session))
      where
        by_either : IsGone whole id ⊎ Contains gone id → ⊥
        by_either (inl was) = gone_past whole id was remains
        by_either (inr has) = out has

        by_case : (id.number < mark_of new id.session) ⊎ (mark_of new id.session ≤ id.number) → mark_of new id.session ≤ id.number
        by_case (inl now) = absurd (by_either (by_mark id now (cases_lt id.number (mark_of whole id.session))))
        by_case (inr over) = over

    same_look : (id : TxnId) → mark_of new id.session ≤ id.number → remaining_at new id ≡ remaining_at whole id
    same_look id over =
        let m = marks id.session in
        let s = id.session in
        let n = length (of s) in
        let rest : remaining_of new s ≡ drop n (remaining_of whole s) = leaves.remain s ∙ ap (λ k. drop k (remaining_of whole s)) (counted s) in
        let place : n + (id.number - mark_of new s) ≡ id.number - mark_of whole s = omega (arith, m) in
        look_up new id over ∙ ap (λ txns. slice_get txns (id.number - mark_of new s)) rest ∙ drop_at (remaining_of whole s) n (id.number - mark_of new s) ∙ ap (slice_get (remaining_of whole s)) place ∙ sym (look_up whole id (omega (arith, m)))

    by_new : (id : TxnId) → Remains new id → Remains whole id × (¬ Contains gone id)
    by_new id remains = by_case (cases_lt id.number (mark_of new id.session))
      where
        by_case : (id.number < mark_of new id.session) ⊎ (mark_of new id.session ≤ id.number) → Remains whole id × (¬ Contains gone id)
        by_case (inl now) = absurd (gone_past new id now remains)
        by_case (inr over) = (subst (λ o. IsSome o) (same_look id over) remains, λ has. let place = gone_place id has in let m = marks id.session in omega (arith, place.1, m))
