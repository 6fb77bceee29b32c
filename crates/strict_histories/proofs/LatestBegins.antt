-- The latest begin of those that ended last in their sessions.
use Rattle.std.proofs.Common.{◌≡◌, ℕ, ◌+◌, ◌<◌, ◌≤◌, ◌⊎◌, inl, inr, Bool, true, false, List, [], ◌∷◌, ◌++◌, length, get_or, take, Some, None, Option, refl, sym, ap, ◌∙◌, arith, suc}
use Rattle.std.specs.Prelude.{max}
use Rattle.std.proofs.lemmas.Bool.{cases_lt}
use Rattle.std.proofs.lemmas.List.{take_more}
use Rattle.txn.specs.History.{session_of}
use Rattle.strict_histories.specs.declared.timed.Span.{Span}
use Rattle.strict_histories.specs.declared.timed.TimedTxn.{TimedTxn}
use Rattle.strict_histories.specs.Rewriting.{begin_before, given_if, is_earlier, last_before, later_time, latest_begin, span_at}
use Rattle.strict_histories.specs.Strict.{TimedHistory}

later_none : (a : Option ℕ) → later_time a None ≡ a
later_none None = refl
later_none (Some a) = refl

later_grouped : (a b c : Option ℕ) → later_time (later_time a b) c ≡ later_time a (later_time b c)
later_grouped None b c = refl
later_grouped (Some a) None c = refl
later_grouped (Some a) (Some b) None = refl
later_grouped (Some a) (Some b) (Some c) = let same : max (max a b) c ≡ max a (max b c) = omega arith in ap (λ (n : ℕ). Some n) same

latest_pushed : (span : Span) (sessions : TimedHistory) (txns : List TimedTxn) → latest_begin span (sessions ++ txns ∷ []) ≡ later_time (latest_begin span sessions) (begin_before span txns)
latest_pushed span [] txns = later_none (begin_before span txns)
latest_pushed span (one ∷ sessions) txns =
    ap (later_time (begin_before span one)) (latest_pushed span sessions txns)
    ∙ sym (later_grouped (begin_before span one) (latest_begin span sessions) (begin_before span txns))

-- the latest begin, once the next session was looked at
pub latest_grown : (span : Span) (timed : TimedHistory) (k : ℕ) (session txns : List TimedTxn) (began latest after : Option ℕ) → k < length timed → session ≡ get_or timed k session → txns ≡ session → began ≡ begin_before span txns → latest ≡ latest_begin span (take k timed) → after ≡ later_time latest began → after ≡ latest_begin span (take (k + 1) timed)
latest_grown span timed k session txns began latest after within is same found so_far next =
    next
    ∙ ap (λ o. later_time o began) so_far
    ∙ ap (later_time (latest_begin span (take k timed))) (found ∙ ap (begin_before span) same)
    ∙ sym (latest_pushed span (take k timed) session)
    ∙ sym (ap (latest_begin span) (take_more timed k session within ∙ ap (λ x. take k timed ++ x ∷ []) (sym is)))

-- ---- whose begin it is

-- one that ended last in its session before one with this span began, and began then, before it did
pub record BeganThen (span : Span) (sessions : TimedHistory) (began : ℕ) : Type 0 where
  pub session : ℕ
  pub number : ℕ
  pub last : last_before span 0 (session_of sessions session) ≡ Some number
  pub is : (span_at (session_of sessions session) (Some number)).began ≡ Some began
  pub earlier : is_earlier (Some began) span.began ≡ true

began_of_last : (span : Span) (txns : List TimedTxn) (began : ℕ) → begin_before span txns ≡ Some began → (number : ℕ) × (last_before span 0 txns ≡ Some number) × ((span_at txns (Some number)).began ≡ Some began) × (is_earlier (Some began) span.began ≡ true)
began_of_last span txns began e = by_last (last_before span 0 txns) refl
  where
    by_test : (number : ℕ) → last_before span 0 txns ≡ Some number → (b : Bool) → is_earlier (span_at txns (Some number)).began span.began ≡ b → given_if (is_earlier (span_at txns (Some number)).began span.began) (span_at txns (Some number)).began ≡ Some began → (number : ℕ) × (last_before span 0 txns ≡ Some number) × ((span_at txns (Some number)).began ≡ Some began) × (is_earlier (Some began) span.began ≡ true)
    by_test number found false test given = let none : None ≡ Some began = sym (ap (λ b. given_if b (span_at txns (Some number)).began) test) ∙ given in absurd cc
    by_test number found true test given =
        let is : (span_at txns (Some number)).began ≡ Some began = sym (ap (λ b. given_if b (span_at txns (Some number)).began) test) ∙ given in
        (number, found, is, sym (ap (λ o. is_earlier o span.began) is) ∙ test)

    by_last : (last : Option ℕ) → last_before span 0 txns ≡ last → (number : ℕ) × (last_before span 0 txns ≡ Some number) × ((span_at txns (Some number)).began ≡ Some began) × (is_earlier (Some began) span.began ≡ true)
    by_last None found = let none : None ≡ Some began = sym (ap (λ o. given_if (is_earlier (span_at txns o).began span.began) (span_at txns o).began) found) ∙ e in absurd cc
    by_last (Some number) found = by_test number found (is_earlier (span_at txns (Some number)).began span.began) refl (sym (ap (λ o. given_if (is_earlier (span_at txns o).began span.began) (span_at txns o).began) found) ∙ e)

-- it is one of the two
one_of_two : (a b : Option ℕ) (n : ℕ) → later_time a b ≡ Some n → (a ≡ Some n) ⊎ (b ≡ Some n)
one_of_two None b n e = inr e
one_of_two (Some a) None n e = inl e
one_of_two (Some a) (Some b) n e = by_less (cases_lt a b)
  where
    same : max a b ≡ n
    same = cc

    by_less : (a < b) ⊎ (b ≤ a) → (Some a ≡ Some n) ⊎ (Some b ≡ Some n)
    by_less (inl below) = let is : b ≡ n = omega (arith, below, same) in inr (ap (λ (k : ℕ). Some k) is)
    by_less (inr above) = let is : a ≡ n = omega (arith, above, same) in inl (ap (λ (k : ℕ). Some k) is)

pub whose_begin : (span : Span) (sessions : TimedHistory) (began : ℕ) → latest_begin span sessions ≡ Some began → BeganThen span sessions began
whose_begin span [] began e = absurd cc
whose_begin span (txns ∷ sessions) began e = by_part (one_of_two (begin_before span txns) (latest_begin span sessions) began e) (whose_begin span sessions began)
  where
    by_part : (begin_before span txns ≡ Some began) ⊎ (latest_begin span sessions ≡ Some began) → (latest_begin span sessions ≡ Some began → BeganThen span sessions began) → BeganThen span (txns ∷ sessions) began
    by_part (inl first) among =
        let (number, last, is, earlier) = began_of_last span txns began first in
        record { session = 0; number = number; last = last; is = is; earlier = earlier }
    by_part (inr later) among =
        let rest = among later in
        record { session = suc rest.session; number = rest.number; last = rest.last; is = rest.is; earlier = rest.earlier }
