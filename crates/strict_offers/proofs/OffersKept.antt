-- What was offered keeps its bounds.
use Rattle.std.proofs.Common.{◌≡◌, ℕ, zero, suc, ◌+◌, ◌*◌, ◌<◌, List, [], ◌++◌, length, Some, refl, sym, ap, ◌∙◌, subst, inl, inr, arith, length-append, length-set, get_or-set_same, get_or-set_other}
use Rattle.std.specs.Prelude.{slice_get, slice_set, replicate, sum_by}
use Rattle.std.proofs.lemmas.Bool.{cases_eq}
use Rattle.std.proofs.lemmas.List.{length-replicate}
use Rattle.std.proofs.lemmas.List.Folds.{sum_by-replicate}
use Rattle.std.proofs.lemmas.List.Sums.{sum_by-set}
use Rattle.std.proofs.lemmas.Option.{slice_get_within}
use Rattle.list_lemmas.proofs.Places.{place_in}
use Rattle.txn.specs.declared.transactions.Fragment.{Fragment}
use Rattle.txn.specs.Transactions.{IsWellFormed, IsWellFormedFragment}
use Rattle.txn.specs.History.{session_of}
use Rattle.logged_fragments.specs.declared.logged.LoggedFragment.{LoggedFragment}
use Rattle.logged_fragments.specs.Effects.{effects}
use Rattle.strict_histories.specs.declared.timed.Span.{Span}
use Rattle.strict_histories.specs.declared.timed.TimedTxn.{TimedTxn}
use Rattle.strict_histories.specs.Strict.{TimedHistory}
use Rattle.strict_offers.specs.Laws.{OffersStayGood}
use Rattle.strict_offers.specs.Offers.{AreBounds, AreGoodOffers, ComesNext, FitsTimes, HasRoom, HaveGoodTimes, IsTaken, OfferedState, nothing_offered, offered, timed_effects}
use Rattle.strict_offers.proofs.Timed.{effects_length, times_at, times_length}

-- ---- where nothing was offered yet

empty_session : (count s : ℕ) → session_of {X = TimedTxn} (replicate count []) s ≡ []
empty_session zero s = refl
empty_session (suc count) zero = refl
empty_session (suc count) (suc s) = empty_session count s

none_there : (P : ℕ → ℕ → TimedTxn → Type 0) (count s n : ℕ) (t : TimedTxn) → slice_get (session_of (replicate count []) s) n ≡ Some t → P s n t
none_there P count s n t at =
    let none : slice_get {X = TimedTxn} [] n ≡ Some t = sym (ap (λ (txns : List TimedTxn). slice_get txns n) (empty_session count s)) ∙ at in
    absurd cc

pub good_at_first : (most sessions limit : ℕ) → AreBounds most sessions limit → AreGoodOffers (nothing_offered most sessions limit)
good_at_first most sessions limit bounds =
    let size : length {A = List TimedTxn} (replicate sessions []) ≡ sessions = length-replicate sessions [] in
    let sum : sum_by length (replicate {A = List TimedTxn} sessions []) ≡ sessions * 0 = sum_by-replicate length sessions [] in
    record {
      bounds = subst (λ (n : ℕ). AreBounds most n limit) (sym size) bounds;
      room = omega (arith, sum);
      well_formed = none_there (λ s n t. IsWellFormed most (record { session = s; number = n }) t.txn) sessions;
      times = none_there (λ s n t. FitsTimes (length {A = List TimedTxn} (replicate sessions [])) t) sessions;
      numbers = omega arith;
    }

-- ---- with what comes

-- What holds of each transaction, and of each that comes at its place, holds of each with these.
each_with : (P : ℕ → ℕ → TimedTxn → Type 0) (timed : TimedHistory) (s : ℕ) (given : List TimedTxn) → s < length timed →
    ((r n : ℕ) (t : TimedTxn) → slice_get (session_of timed r) n ≡ Some t → P r n t) →
    ((n : ℕ) (t : TimedTxn) → slice_get given n ≡ Some t → P s (length (session_of timed s) + n) t) →
    (r n : ℕ) (t : TimedTxn) → slice_get (session_of (slice_set timed s (session_of timed s ++ given)) r) n ≡ Some t → P r n t
each_with P timed s given within old new r n t h = elim (cases_eq r s) [
  | inl same ↦
      let at : slice_get (session_of timed s ++ given) n ≡ Some t =
      ap (λ (txns : List TimedTxn). slice_get txns n) (sym (get_or-set_same timed s (session_of timed s ++ given) [] within)) ∙ ap (λ (k : ℕ). slice_get (session_of (slice_set timed s (session_of timed s ++ given)) k) n) (sym same) ∙ h in
      subst (λ (k : ℕ). P k n t) (sym same) (elim (place_in (session_of timed s) given n t at) [
        | inl a ↦ old s n t a
        | inr b ↦ subst (λ (m : ℕ). P s m t) (sym b.1) (new b.0 t b.2)
      ])
  | inr other ↦ old r n t (ap (λ (txns : List TimedTxn). slice_get txns n) (sym (get_or-set_other timed s r (session_of timed s ++ given) [] other)) ∙ h)
]

pub good_with : (old : OfferedState) (logged : LoggedFragment) (spans : List Span) → AreGoodOffers old → IsTaken old logged spans → AreGoodOffers (offered old logged spans)
good_with old logged spans good taken =
    let s = logged.fragment.session in
    let within : s < length old.timed = taken.next.session in
    let before = session_of old.timed s in
    let given = timed_effects logged spans in
    let size : length (slice_set old.timed s (before ++ given)) ≡ length old.timed = length-set old.timed s (before ++ given) in
    let sum = sum_by-set length old.timed s (before ++ given) [] within in
    let more = length-append before given in
    let many : length given ≡ length logged.fragment.txns = times_length (effects logged).txns spans ∙ effects_length logged.aborted logged.fragment.txns in
    record {
      bounds = subst (λ (n : ℕ). AreBounds old.most_sessions n old.limit) (sym size) good.bounds;
      room = omega (arith, sum, more, many, taken.room);
      well_formed = each_with (λ r n t. IsWellFormed old.most_sessions (record { session = r; number = n }) t.txn) old.timed s given within good.well_formed
          (λ n t at.
          let there = times_at (effects logged).txns spans n t at in
          let place : logged.fragment.first + n ≡ length before + n = omega (arith, taken.next.next) in
          subst (λ (m : ℕ). IsWellFormed old.most_sessions (record { session = s; number = m }) t.txn) place (taken.effects.txns n t.txn (slice_get_within (effects logged).txns n t.txn there) there));
      times = each_with (λ r n t. FitsTimes (length (slice_set old.timed s (before ++ given))) t) old.timed s given within
          (λ r n t at. subst (λ (k : ℕ). FitsTimes k t) (sym size) (good.times r n t at))
          (λ n t at. subst (λ (k : ℕ). FitsTimes k t) (sym size) (taken.times n t at).0);
      numbers = good.numbers;
    }

-- what was looked at says that the fragment is taken
pub taken_by : (state : OfferedState) (logged : LoggedFragment) (spans : List Span) (did : Fragment) (given : List TimedTxn) → did ≡ effects logged → given ≡ timed_effects logged spans → IsWellFormedFragment state.most_sessions logged.fragment → IsWellFormedFragment state.most_sessions did → ComesNext state logged.fragment → HasRoom state logged.fragment
    → HaveGoodTimes (length state.timed) (session_of state.timed logged.fragment.session) given → IsTaken state logged spans
taken_by state logged spans did given same timed formed effects next room times = record {
  well_formed = formed;
  effects = subst (IsWellFormedFragment state.most_sessions) same effects;
  next = next;
  room = room;
  times = subst (HaveGoodTimes (length state.timed) (session_of state.timed logged.fragment.session)) timed times;
}

pub stay : OffersStayGood
stay = record {
  opened = good_at_first;
  offers = good_with;
  rounds = λ old good room. record {
    bounds = good.bounds;
    room = good.room;
    well_formed = good.well_formed;
    times = good.times;
    numbers = omega (arith, room);
  };
}
