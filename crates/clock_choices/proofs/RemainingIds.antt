-- The ids of what remains, session by session.
use Rattle.std.proofs.Common.{◌≡◌, ◌∙◌, ◌⊎◌, ◌||◌, ◌&&◌, nat_eq, nat_lt, true, get_or, ◌↔◌, ℕ, ◌+◌, ◌<◌, ◌≤◌, List, [], ◌∷◌, ◌++◌, length, sym, ap, subst, inl, inr, arith, Contains}
use Rattle.std.proofs.lemmas.Bool.{cases_eq, cases_lt, eq-eqb, lt-ltb}
use Rattle.std.proofs.Math.Bool.{or-true}
use Rattle.std.proofs.lemmas.List.{get_or_past}
use Rattle.std.proofs.lemmas.List.Elements.{Contains-append_left, Contains-get_or, Contains-push, Contains-push_cases}
use Rattle.std.proofs.lemmas.List.Quantifiers.{all_pairs_push}
use Rattle.txn.specs.declared.transactions.TxnId.{TxnId}
use Rattle.txn.specs.Transactions.{id_below}
use Rattle.order_check.specs.declared.remainder.Parts.{Parts}
use Rattle.order_check.specs.Based.{Remains, mark_of, remaining_of}
use Rattle.clock_choices.specs.Adds.{Adds}
use Rattle.clock_choices.specs.Indexing.{AreBefore, AreInOrder, IsOfSession, IsUpTo}
use Rattle.clock_choices.proofs.Adding.{adds_same}
use Rattle.clock_choices.proofs.Remaining.{bounds_of, bounds_remain}

-- one number more
pub upto_push : (old ids : List TxnId) (session from to : ℕ) → from ≤ to → Adds (Contains old) (Contains ids) (IsUpTo session from to) → Adds (Contains old) (Contains (ids ++ record { session = session; number = to } ∷ [])) (IsUpTo session from (to + 1))
upto_push old ids session from to order adds = record { each = each; stay = λ id was. Contains-append_left ids (new ∷ []) id (adds.stay id was); all = all }
  where
    new : TxnId
    new = record { session = session; number = to }

    each : (id : TxnId) → Contains (ids ++ new ∷ []) id → Contains old id ⊎ IsUpTo session from (to + 1) id
    each id there = elim (Contains-push_cases ids new id there) [
      | inl before ↦ elim (adds.each id before) [ inl was ↦ inl was | inr (same, low, high) ↦ inr (same, low, omega (arith, high)) ]
      | inr same ↦
          let n = ap (λ (x : TxnId). x.number) same in
          inr (ap (λ (x : TxnId). x.session) (sym same), omega (arith, n, order), omega (arith, n))
    ]

    all : (id : TxnId) → IsUpTo session from (to + 1) id → Contains (ids ++ new ∷ []) id
    all id (same, low, high) = elim (cases_eq id.number to) [
      | inl last ↦ subst (λ (one : TxnId). Contains (ids ++ new ∷ []) one) (λ i. record { session = sym same i; number = sym last i }) (Contains-push ids new)
      | inr apart ↦ Contains-append_left ids (new ∷ []) id (adds.all id (same, low, omega (arith, high)))
    ]

pub upto_none : (old : List TxnId) (session from : ℕ) → Adds (Contains old) (Contains old) (IsUpTo session from from)
upto_none old session from = record { each = λ id was. inl was; stay = λ id was. was; all = λ id is. absurd (let low = is.1 in let high = is.2 in omega (arith, low, high)) }

-- those of a session
pub upto_session : (parts : Parts) (old ids : List TxnId) (session to : ℕ) → to ≡ mark_of parts session + length (remaining_of parts session) → Adds (Contains old) (Contains ids) (IsUpTo session (mark_of parts session) to) → Adds (Contains old) (Contains ids) (IsOfSession parts session)
upto_session parts old ids session to end adds = adds_same (Contains old) (Contains ids) (IsUpTo session (mark_of parts session) to) (IsOfSession parts session) adds down up
  where
    down : (id : TxnId) → IsOfSession parts session id → IsUpTo session (mark_of parts session) to id
    down id (same, remains) =
        let bounds = bounds_of parts id remains in
        let low = bounds.low in
        let high = bounds.high in
        let m : mark_of parts id.session ≡ mark_of parts session = ap (λ (s : ℕ). mark_of parts s) same in
        let r : length (remaining_of parts id.session) ≡ length (remaining_of parts session) = ap (λ (s : ℕ). length (remaining_of parts s)) same in
        (same, omega (arith, low, m), omega (arith, low, high, m, r, end))

    up : (id : TxnId) → IsUpTo session (mark_of parts session) to id → IsOfSession parts session id
    up id (same, low, high) =
        let m : mark_of parts id.session ≡ mark_of parts session = ap (λ (s : ℕ). mark_of parts s) same in
        let r : length (remaining_of parts id.session) ≡ length (remaining_of parts session) = ap (λ (s : ℕ). length (remaining_of parts s)) same in
        (same, bounds_remain parts id (record { low = omega (arith, low, m); high = omega (arith, low, high, m, r, end) }))

-- those of one session more
pub session_more : (parts : Parts) (old new : List TxnId) (session : ℕ) → ((id : TxnId) → Contains old id ↔ (Remains parts id × (id.session < session))) → Adds (Contains old) (Contains new) (IsOfSession parts session) → (id : TxnId) → Contains new id ↔ (Remains parts id × (id.session < session + 1))
session_more parts old new session were adds id = (down, up)
  where
    down : Contains new id → Remains parts id × (id.session < session + 1)
    down there = elim (adds.each id there) [
      | inl was ↦ let is = (were id).0 was in let below = is.1 in (is.0, omega (arith, below))
      | inr (same, remains) ↦ (remains, omega (arith, same))
    ]

    up : Remains parts id × (id.session < session + 1) → Contains new id
    up (remains, below) = elim (cases_eq id.session session) [
      | inl same ↦ adds.all id (same, remains)
      | inr apart ↦ adds.stay id ((were id).1 (remains, omega (arith, below)))
    ]

pub no_session : (parts : Parts) (id : TxnId) → Contains [] id ↔ (Remains parts id × (id.session < 0))
no_session parts id = ((λ there. absurd (omega (arith, there.1))), (λ both. absurd (let below = both.1 in omega (arith, below))))

-- what remains is of one of the sessions
pub session_within : (parts : Parts) (id : TxnId) → Remains parts id → id.session < length parts.remain
session_within parts id remains = elim (cases_lt id.session (length parts.remain)) [
  | inl within ↦ within
  | inr past ↦
      let bounds = bounds_of parts id remains in
      let high = bounds.high in
      let none = ap length (get_or_past parts.remain id.session [] past) in
      absurd (omega (arith, high, none))
]

pub none_rise : AreInOrder []
none_rise i j d first within = absurd (omega arith)

pub below_by_session : (a b : TxnId) → a.session < b.session → id_below a b ≡ true
below_by_session a b below = let l = lt-ltb a.session b.session below in ap (λ t. t || (nat_eq a.session b.session && nat_lt a.number b.number)) l

pub below_in_session : (a b : TxnId) → a.session ≡ b.session → a.number < b.number → id_below a b ≡ true
below_in_session a b same below =
    let e = eq-eqb a.session b.session same in
    let l = lt-ltb a.number b.number below in
    ap (λ t. nat_lt a.session b.session || (t && nat_lt a.number b.number)) e ∙ ap (λ t. nat_lt a.session b.session || t) l ∙ or-true (nat_lt a.session b.session)

-- the next one of a session is behind those of earlier sessions and those before it in its own
pub rise_push : (old ids : List TxnId) (session from number : ℕ) → Adds (Contains old) (Contains ids) (IsUpTo session from number) → AreBefore session old → AreInOrder ids → AreInOrder (ids ++ record { session = session; number = number } ∷ [])
rise_push old ids session from number adds before order = all_pairs_push (λ a b. id_below a b ≡ true) ids new order
    (λ k d within. below (get_or ids k d) (adds.each (get_or ids k d) (Contains-get_or ids k d within)))
  where
    new : TxnId
    new = record { session = session; number = number }

    below : (id : TxnId) → Contains old id ⊎ IsUpTo session from number id → id_below id new ≡ true
    below id (inl was) = below_by_session id new (before id was)
    below id (inr (same, low, high)) = below_in_session id new same high
