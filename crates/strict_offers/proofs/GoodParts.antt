-- The parts that a round is about keep the rules of parts.
use Rattle.std.proofs.Common.{◌≡◌, ◌≢◌, ℕ, zero, suc, ◌+◌, ◌<◌, ◌≤◌, ◌⊎◌, List, [], ◌∷◌, length, Some, None, Option, refl, sym, ap, ◌∙◌, subst, inl, inr, arith}
use Rattle.std.specs.FinMap as map
use Rattle.std.specs.Ordering.{nat_cmp}
use Rattle.std.specs.Prelude.{All, false, slice_get, slice_index, slice_index_or, replicate, sum_by, option_map}
use Rattle.std.proofs.lemmas.List.{length-replicate}
use Rattle.std.proofs.lemmas.List.Elements.{All-head}
use Rattle.std.proofs.lemmas.List.Sums.{sum_by-cons}
use Rattle.std.proofs.lemmas.Option.{get_or_from_slice_get, slice_get-get_or}
use Rattle.txn.specs.declared.transactions.Txn.{Txn}
use Rattle.txn.specs.declared.transactions.TxnId.{TxnId}
use Rattle.txn.specs.Transactions.{IsFence, IsShort, IsWellFormed, SparesEpoch}
use Rattle.txn.specs.History.{session_of}
use Rattle.order_check.specs.Based.{mark_of}
use Rattle.strict_histories.specs.declared.timed.TimedTxn.{TimedTxn}
use Rattle.strict_histories.specs.Laws.{RewritingAddsFew, RewritingGoesByPlace, RewritingIsWellFormed, RewritingKeepsCounts}
use Rattle.strict_histories.specs.Rewriting.{HasLowKeys, HasRoomForTimes, strict_history, strict_txn}
use Rattle.strict_histories.specs.Strict.{TimedHistory}
use Rattle.strict_offers.specs.Laws.{RoundsAreOfGoodParts}
use Rattle.strict_offers.specs.Offers.{AreGoodOffers, FitsTimes, OfferedState, strict_parts, unknown}

-- ---- counts

-- no more in a session than in all
in_all : {X : Type 0} (rows : List (List X)) (s : ℕ) → length (session_of rows s) ≤ sum_by length rows
in_all [] s = omega arith
in_all (row ∷ rows) zero =
    let sum = sum_by-cons length row rows in
    let first : length (session_of (row ∷ rows) 0) ≡ length row = refl in
    omega (arith, sum, first)
in_all (row ∷ rows) (suc s) =
    let sum = sum_by-cons length row rows in
    let next : length (session_of (row ∷ rows) (suc s)) ≡ length (session_of rows s) = refl in
    let rest = in_all rows s in
    omega (arith, sum, next, rest)

-- where each session has as many, all have
as_many : {X Y : Type 0} (xs : List (List X)) (ys : List (List Y)) → length xs ≡ length ys → ((s : ℕ) → length (session_of xs s) ≡ length (session_of ys s)) → sum_by length xs ≡ sum_by length ys
as_many [] [] same each = refl
as_many [] (y ∷ ys) same each = absurd (omega (arith, same))
as_many (x ∷ xs) [] same each = absurd (omega (arith, same))
as_many (x ∷ xs) (y ∷ ys) same each =
    let rest = as_many xs ys (omega (arith, same)) (λ s. each (suc s)) in
    let first : length x ≡ length y = each 0 in
    let of_xs = sum_by-cons length x xs in
    let of_ys = sum_by-cons length y ys in
    omega (arith, rest, first, of_xs, of_ys)

zero_mark : (count s : ℕ) → slice_index (replicate count 0) s ≡ 0
zero_mark zero s = refl
zero_mark (suc count) zero = refl
zero_mark (suc count) (suc s) = zero_mark count s

-- ---- room for times

session_there : {X : Type 0} (rows : List (List X)) (s : ℕ) (d : List X) → s < length rows → slice_index_or rows s d ≡ session_of rows s
session_there rows s d within = sym (get_or_from_slice_get rows s (slice_index_or rows s d) [] (slice_get-get_or rows s d within))

room_for_times : (state : OfferedState) → AreGoodOffers state → HasRoomForTimes state.timed
room_for_times state good = record {
  sessions = omega (arith, good.bounds.few_sessions, good.bounds.low_sessions);
  numbers = λ s d within.
      let few = in_all state.timed s in
      let there = ap length (session_there state.timed s d within) in
      omega (arith, few, there, good.room, good.bounds.low_limit);
  keys = λ s d within. subst (All (λ (t : TimedTxn). HasLowKeys t.txn)) (sym (session_there state.timed s d within))
      (λ n e inside. (good.times s n (slice_index_or (session_of state.timed s) n e) (slice_get-get_or (session_of state.timed s) n e inside)).keys);
}

-- ---- what is gone

no_writer : (key : ℕ) (writer : TxnId) → map.get {R = nat_cmp} map.empty key ≡ Some writer → ⊥
no_writer key writer h = let at : None ≡ Some writer = sym (map.get-empty nat_cmp key) ∙ h in cc

-- ---- each transaction

-- a fence has no times
no_times : (sessions : ℕ) (t : TimedTxn) → FitsTimes sessions t → IsFence t.txn → (t.span.began ≡ None) × (t.span.ended ≡ None)
no_times sessions t fits (source, reads, writes) = by_epoch fits.epoch
  where
    by_epoch : SparesEpoch t.txn ⊎ (t.span ≡ unknown) → (t.span.began ≡ None) × (t.span.ended ≡ None)
    by_epoch (inl spares) =
        let low : 0 ≢ 0 = All-head (λ key. key ≢ 0) 0 [] (subst (All (λ key. key ≢ 0)) writes spares.writes) in
        absurd (low refl)
    by_epoch (inr none) = (ap (λ span. span.began) none, ap (λ span. span.ended) none)

-- What holds of each transaction rewritten holds of each of the rewritten history.
each_rewritten : RewritingGoesByPlace → (P : ℕ → ℕ → Txn → Type 0) (timed : TimedHistory) →
    ((s n : ℕ) (t : TimedTxn) → slice_get (session_of timed s) n ≡ Some t → P s n (strict_txn timed (record { session = s; number = n }) t)) →
    (s n : ℕ) (txn : Txn) → slice_get (session_of (strict_history timed) s) n ≡ Some txn → P s n txn
each_rewritten goes P timed each s n txn at = by_found (slice_get (session_of timed s) n) refl (sym (goes timed (record { session = s; number = n })) ∙ at)
  where
    by_found : (found : Option TimedTxn) → slice_get (session_of timed s) n ≡ found → option_map (strict_txn timed (record { session = s; number = n })) found ≡ Some txn → P s n txn
    by_found None there is = absurd cc
    by_found (Some t) there is =
        let same : strict_txn timed (record { session = s; number = n }) t ≡ txn = cc in
        subst (P s n) same (each s n t there)

pub good_parts : RewritingAddsFew → RewritingGoesByPlace → RewritingIsWellFormed → RewritingKeepsCounts → RoundsAreOfGoodParts
good_parts few goes formed counts = record {
  good = λ state good.
      let parts = strict_parts state in
      let timed = state.timed in
      let room = room_for_times state good in
      let size : length (strict_history timed) ≡ length timed = (counts timed).0 in
      let marks : length (replicate (length timed) 0) ≡ length timed = length-replicate (length timed) 0 in
      let flags : length (replicate (length timed) false) ≡ length timed = length-replicate (length timed) false in
      let sum = as_many (strict_history timed) timed size (counts timed).1 in
      record {
        some_sessions = omega (arith, size, good.bounds.some_sessions);
        few_sessions = omega (arith, size, good.bounds.few_sessions);
        low_sessions = good.bounds.low_sessions;
        marks = marks ∙ sym size;
        closed = flags ∙ sym size;
        some_limit = good.bounds.some_limit;
        low_limit = good.bounds.low_limit;
        room = omega (arith, sum, good.room);
        numbers = λ s.
            let none = zero_mark (length timed) s in
            let many = (counts timed).1 s in
            let within = in_all timed s in
            omega (arith, none, many, within, good.room, good.bounds.low_limit);
        well_formed = λ s n txn at.
            let none = zero_mark (length timed) s in
            let here : n ≡ mark_of parts s + n = omega (arith, none) in
            subst (λ (m : ℕ). IsWellFormed state.most_sessions (record { session = s; number = m }) txn) here
            (each_rewritten goes (λ s n txn. IsWellFormed state.most_sessions (record { session = s; number = n }) txn) timed
            (λ s n t there.
            let fits = good.times s n t there in
            formed state.most_sessions timed (record { session = s; number = n }) t room good.bounds.few_sessions there (good.well_formed s n t there) fits.span (no_times (length timed) t fits))
            s n txn at);
        short = each_rewritten goes (λ s n txn. IsShort txn) timed (λ s n t there.
            let fits = good.times s n t there in
            let more = few timed (record { session = s; number = n }) t in
            record { reads = omega (arith, more.0, fits.reads); writes = omega (arith, more.1, fits.writes) });
        base = λ key writer last. absurd (no_writer key writer last);
      };
  no_base = λ state. record { marks = zero_mark (length state.timed); last = refl };
  room = room_for_times;
}
