-- Where ids stand in an order of a history.
use Rattle.std.proofs.Common.{◌≡◌, ℕ, ◌+◌, ◌<◌, ◌≤◌, ◌⊎◌, List, ◌∷◌, ◌++◌, length, Some, refl, sym, ap, subst, ◌∙◌, inl, inr, arith, eq-eqb, suc, true, length-append}
use Rattle.std.specs.List.{slice_get, filter}
use Rattle.std.proofs.lemmas.Bool.{cases_lt}
use Rattle.list_lemmas.proofs.Places.{IsAt, filtered_at, place_in, place_left, place_right, precedes_filter, precedes_filtered, split_at}
use Rattle.list_lemmas.specs.Precedes.{Precedes}
use Rattle.txn.specs.declared.transactions.TxnId.{TxnId}
use Rattle.txn.specs.History.{History, in_session, ids_from, session_of}
use Rattle.order_check.proofs.SessionIds.{id_at_place, ids_from_at}

-- session by session the order has the ids of the history
abbrev pub KeepsSessions : History → List TxnId → Type 0
KeepsSessions history order = (s : ℕ) → filter (in_session s) order ≡ ids_from s 0 (session_of history s)

in_own : (id : TxnId) → in_session id.session id ≡ true
in_own id = eq-eqb id.session id.session refl

pub never_twice : (history : History) (order : List TxnId) (id : TxnId) → KeepsSessions history order → Precedes order id id → ⊥
never_twice history order id keeps twice = apart (subst (λ ids. Precedes ids id id) (keeps id.session) (precedes_filter (in_session id.session) order id id (in_own id) (in_own id) twice))
  where
    apart : Precedes (ids_from id.session 0 (session_of history id.session)) id id → ⊥
    apart (i, j, below, here, there) =
        let first = id_at_place id.session 0 (session_of history id.session) i id here in
        let second = id_at_place id.session 0 (session_of history id.session) j id there in
        omega (arith, below, first.2, second.2)

-- an id stands at one place
pub one_place : (history : History) (order : List TxnId) (id : TxnId) (i j : ℕ) → KeepsSessions history order → slice_get order i ≡ Some id → slice_get order j ≡ Some id → i ≡ j
one_place history order id i j keeps here there = by_less (cases_lt i j) (cases_lt j i)
  where
    by_less : (i < j) ⊎ (j ≤ i) → (j < i) ⊎ (i ≤ j) → i ≡ j
    by_less (inl below) _ = absurd (never_twice history order id keeps (i, j, below, here, there))
    by_less (inr _) (inl below) = absurd (never_twice history order id keeps (j, i, below, there, here))
    by_less (inr a) (inr b) = omega (arith, a, b)

-- what stands before what
pub before_after : (history : History) (order : List TxnId) (a b c : TxnId) → KeepsSessions history order → Precedes order a b → Precedes order b c → Precedes order a c
before_after history order a b c keeps (i, j, below, here, there) (k, m, other_below, other_here, other_there) =
    let same = one_place history order b j k keeps there other_here in
    (i, m, omega (arith, below, other_below, same), here, other_there)

-- of one session the lower number stands before the higher
pub in_turn : (history : History) (order : List TxnId) (a b : TxnId) → KeepsSessions history order → a.session ≡ b.session → a.number < b.number → b.number < length (session_of history b.session) → Precedes order a b
in_turn history order a b keeps session below within = precedes_filtered (in_session b.session) order a b (subst (λ ids. Precedes ids a b) (sym (keeps b.session)) (a.number, b.number, below, here, there))
  where
    there : slice_get (ids_from b.session 0 (session_of history b.session)) b.number ≡ Some b
    there =
        let n : 0 + b.number ≡ b.number = omega arith in
        ids_from_at b.session 0 (session_of history b.session) b.number within ∙ ap (λ (k : ℕ). Some (record { session = b.session; number = k })) n

    here : slice_get (ids_from b.session 0 (session_of history b.session)) a.number ≡ Some a
    here =
        let n : 0 + a.number ≡ a.number = omega arith in
        let inside : a.number < length (session_of history b.session) = omega (arith, below, within) in
        ids_from_at b.session 0 (session_of history b.session) a.number inside
        ∙ ap (λ (k : ℕ). Some (record { session = b.session; number = k })) n
        ∙ ap (λ (s : ℕ). Some (record { session = s; number = a.number })) (sym session)

-- what stands in front of an id stands before it
pub front_precedes : (order front back : List TxnId) (older newer : List TxnId) (a b : TxnId) → order ≡ front ++ b ∷ back → front ≡ older ++ a ∷ newer → Precedes order a b
front_precedes order front back older newer a b split inside = (
  length older + 0,
  length front + 0,
  (let long : length front ≡ length older + length (a ∷ newer) = ap length inside ∙ length-append older (a ∷ newer) in omega (arith, long)),
  subst (λ ids. slice_get ids (length older + 0) ≡ Some a) (sym split) (place_left front (b ∷ back) (length older + 0) a (subst (λ ids. slice_get ids (length older + 0) ≡ Some a) (sym inside) (place_right older (a ∷ newer) 0 a refl))),
  subst (λ ids. slice_get ids (length front + 0) ≡ Some b) (sym split) (place_right front (b ∷ back) 0 b refl),
)

-- and what stands before it stands in front, once
pub precedes_front : (history : History) (order front back : List TxnId) (a b : TxnId) → KeepsSessions history order → order ≡ front ++ b ∷ back → Precedes order a b → (older newer : List TxnId) × (front ≡ older ++ a ∷ newer) × ((k : ℕ) → slice_get newer k ≡ Some a → ⊥)
precedes_front history order front back a b keeps split (i, j, below, here, there) = around (split_at front i a in_front)
  where
    place : j ≡ length front + 0
    place = one_place history order b j (length front + 0) keeps there (subst (λ ids. slice_get ids (length front + 0) ≡ Some b) (sym split) (place_right front (b ∷ back) 0 b refl))

    in_front : slice_get front i ≡ Some a
    in_front = by_side (place_in front (b ∷ back) i a (subst (λ ids. slice_get ids i ≡ Some a) split here))
      where
        by_side : (slice_get front i ≡ Some a) ⊎ ((k : ℕ) × (i ≡ length front + k) × (slice_get (b ∷ back) k ≡ Some a)) → slice_get front i ≡ Some a
        by_side (inl found) = found
        by_side (inr (k, e, found)) = absurd (omega (arith, e, below, place))

    around : (older newer : List TxnId) × (front ≡ older ++ a ∷ newer) × (length older ≡ i) → (older newer : List TxnId) × (front ≡ older ++ a ∷ newer) × ((k : ℕ) → slice_get newer k ≡ Some a → ⊥)
    around (older, newer, inside, size) = (older, newer, inside, once)
      where
        once : (k : ℕ) → slice_get newer k ≡ Some a → ⊥
        once k found =
            let later : slice_get order (length older + suc k) ≡ Some a = subst (λ ids. slice_get ids (length older + suc k) ≡ Some a) (sym split) (place_left front (b ∷ back) (length older + suc k) a (subst (λ ids. slice_get ids (length older + suc k) ≡ Some a) (sym inside) (place_right older (a ∷ newer) (suc k) a found))) in
            let same = one_place history order a i (length older + suc k) keeps here later in
            omega (arith, same, size)

-- each id of the history stands in the order
pub stands : (history : History) (order : List TxnId) (id : TxnId) → KeepsSessions history order → id.number < length (session_of history id.session) → IsAt order id
stands history order id keeps within = filtered_at (in_session id.session) order id (subst (λ ids. IsAt ids id) (sym (keeps id.session)) (id.number, here))
  where
    here : slice_get (ids_from id.session 0 (session_of history id.session)) id.number ≡ Some id
    here =
        let n : 0 + id.number ≡ id.number = omega arith in
        ids_from_at id.session 0 (session_of history id.session) id.number within ∙ ap (λ (k : ℕ). Some (record { session = id.session; number = k })) n
