-- The orders that explain a history and keep real time are those that explain its rewritten history.
use Rattle.std.proofs.Common.{◌≡◌, ℕ, ◌+◌, ◌<◌, ◌≤◌, ◌^◌, ◌⊎◌, Bool, true, false, zero, suc, List, ◌∷◌, ◌++◌, length, Some, None, Option, refl, sym, ap, subst, ◌∙◌, inl, inr, arith, IsSome}
use Rattle.std.specs.Prelude.{All, option_map}
use Rattle.std.specs.List.{slice_get, slice_index_or}
use Rattle.std.proofs.lemmas.Bool.{false≢true, cases_lt, lt-ltb, ltb-true}
use Rattle.std.proofs.lemmas.List.{length-map}
use Rattle.std.proofs.lemmas.List.Elements.{All-append}
use Rattle.std.proofs.lemmas.Option.{slice_get-get_or, slice_get_within}
use Rattle.list_lemmas.proofs.Places.{IsAt, split_at}
use Rattle.list_lemmas.specs.Precedes.{Precedes}
use Rattle.txn.specs.declared.transactions.TxnId.{TxnId}
use Rattle.txn.specs.declared.transactions.Source.{Source}
use Rattle.txn.specs.declared.transactions.Source.TheVariants.{Init, By}
use Rattle.txn.specs.declared.transactions.Txn.{Txn}
use Rattle.txn.specs.History.{Received, session_of, txn_at, writes_key, IsLastWriter}
use Rattle.order_check.specs.Whole.{MeetsWhole, ExplainsWhole}
use Rattle.strict_histories.specs.Laws.{SameOrdersRewritten}
use Rattle.strict_histories.specs.declared.timed.Span.{Span}
use Rattle.strict_histories.specs.declared.timed.TimedTxn.{TimedTxn}
use Rattle.strict_histories.specs.Rewriting.{HasRoomForTimes, is_earlier, end_key, end_reads, ended_before, last_before, last_since, latest_begin, span_at, span_of, strict_history, strict_txn}
use Rattle.strict_histories.specs.Strict.{TimedHistory, timed_at, untimed, EndedBefore, IsStrictOrder}
use Rattle.strict_histories.proofs.EndReads.{all_left, all_right, covered_before, end_has, ends_have, found_before, last_is_since, read_of, since_is_last}
use Rattle.strict_histories.proofs.LatestBegins.{BeganThen, whose_begin}
use Rattle.strict_histories.proofs.Lookups.{low_keys, low_number, only_own, same_ids, same_writes, some_of_map, strict_at, untimed_at, untimed_session, writes_own}
use Rattle.strict_histories.proofs.Stands.{KeepsSessions, before_after, front_precedes, in_turn, never_twice, precedes_front, stands}

-- ---- times

from_earlier : (e o : Option ℕ) → is_earlier e o ≡ true → (ended began : ℕ) × (e ≡ Some ended) × (o ≡ Some began) × (ended < began)
from_earlier None o h = absurd (false≢true h)
from_earlier (Some e) None h = absurd (false≢true h)
from_earlier (Some e) (Some o) h = (e, o, refl, refl, ltb-true e o h)

from_test : (a b : Span) → ended_before a b ≡ true → (ended began : ℕ) × (a.ended ≡ Some ended) × (b.began ≡ Some began) × (ended < began)
from_test a b h = from_earlier a.ended b.began h

to_test : (a b : Span) (ended began : ℕ) → a.ended ≡ Some ended → b.began ≡ Some began → ended < began → ended_before a b ≡ true
to_test a b ended began is was below = ap (λ o. is_earlier o b.began) is ∙ ap (is_earlier (Some ended)) was ∙ lt-ltb ended began below

-- ---- what is received

pub strict_received : (timed : TimedHistory) (id : TxnId) → Received (untimed timed) id → Received (strict_history timed) id
strict_received timed id received = subst (λ o. IsSome o) (sym (strict_at timed id)) (some_of_map (λ (t : TimedTxn). t.txn) (strict_txn timed id) (timed_at timed id) (subst (λ o. IsSome o) (untimed_at timed id) received))

pub untimed_received : (timed : TimedHistory) (id : TxnId) → Received (strict_history timed) id → Received (untimed timed) id
untimed_received timed id received = subst (λ o. IsSome o) (sym (untimed_at timed id)) (some_of_map (strict_txn timed id) (λ (t : TimedTxn). t.txn) (timed_at timed id) (subst (λ o. IsSome o) (strict_at timed id) received))

pub found_received : (timed : TimedHistory) (id : TxnId) (t : TimedTxn) → timed_at timed id ≡ Some t → Received (strict_history timed) id
found_received timed id t at = subst (λ o. IsSome o) (sym (strict_at timed id ∙ ap (option_map (strict_txn timed id)) at)) refl

-- within its session
within_session : (timed : TimedHistory) (id : TxnId) (t : TimedTxn) → timed_at timed id ≡ Some t → id.number < length (session_of (untimed timed) id.session)
within_session timed id t at =
    let same : length (session_of (untimed timed) id.session) ≡ length (session_of timed id.session) = ap length (untimed_session timed id.session) ∙ length-map (session_of timed id.session) (λ (t : TimedTxn). t.txn) in
    let inside = slice_get_within (session_of timed id.session) id.number t at in
    omega (arith, same, inside)

-- the last of a session that ended before is one of the history
pub last_at : (timed : TimedHistory) (span : Span) (s n : ℕ) → last_before span 0 (session_of timed s) ≡ Some n → (u : TimedTxn) × (timed_at timed (record { session = s; number = n }) ≡ Some u) × (ended_before u.span span ≡ true)
last_at timed span s n e = by_place (found_before span 0 (session_of timed s) n e)
  where
    by_place : (k : ℕ) × (u : TimedTxn) × (n ≡ 0 + k) × (slice_get (session_of timed s) k ≡ Some u) × (ended_before u.span span ≡ true) → (u : TimedTxn) × (slice_get (session_of timed s) n ≡ Some u) × (ended_before u.span span ≡ true)
    by_place (k, u, place, at, test) = let same : n ≡ k = omega (arith, place) in (u, ap (slice_get (session_of timed s)) same ∙ at, test)

-- ---- reads of keys of the history

meets_untimed : (timed : TimedHistory) (front : List TxnId) (key : ℕ) (source : Source) → key < 2 ^ 62 → MeetsWhole (strict_history timed) front key source → MeetsWhole (untimed timed) front key source
meets_untimed timed front key Init low met = λ k d within. sym (same_writes timed (slice_index_or front k d) key low) ∙ met k d within
meets_untimed timed front key (By writer) low met = λ received. moved (met (strict_received timed writer received))
  where
    moved : IsLastWriter (txn_at (strict_history timed)) key front writer → IsLastWriter (txn_at (untimed timed)) key front writer
    moved (older, newer, e, writes, none) = (older, newer, e, sym (same_writes timed writer key low) ∙ writes, λ k d within. sym (same_writes timed (slice_index_or newer k d) key low) ∙ none k d within)

meets_strict : (timed : TimedHistory) (front : List TxnId) (key : ℕ) (source : Source) → key < 2 ^ 62 → MeetsWhole (untimed timed) front key source → MeetsWhole (strict_history timed) front key source
meets_strict timed front key Init low met = λ k d within. same_writes timed (slice_index_or front k d) key low ∙ met k d within
meets_strict timed front key (By writer) low met = λ received. moved (met (untimed_received timed writer received))
  where
    moved : IsLastWriter (txn_at (untimed timed)) key front writer → IsLastWriter (txn_at (strict_history timed)) key front writer
    moved (older, newer, e, writes, none) = (older, newer, e, same_writes timed writer key low ∙ writes, λ k d within. same_writes timed (slice_index_or newer k d) key low ∙ none k d within)

-- ---- from the rewritten history

keeps_untimed : (timed : TimedHistory) (order : List TxnId) → ExplainsWhole (strict_history timed) order → KeepsSessions (untimed timed) order
keeps_untimed timed order h s = h.sessions s ∙ same_ids timed s

-- all that a transaction reads is met
all_met : (timed : TimedHistory) (order front back : List TxnId) (id : TxnId) (t : TimedTxn) → ExplainsWhole (strict_history timed) order → order ≡ front ++ id ∷ back → timed_at timed id ≡ Some t → All (λ read. MeetsWhole (strict_history timed) front read.0 read.1) (t.txn.reads ++ end_reads t.span timed)
all_met timed order front back id t h split at = h.reads front back id split (strict_txn timed id t) (strict_at timed id ∙ ap (option_map (strict_txn timed id)) at)

-- one whose end is read stands before the reader
read_precedes : (timed : TimedHistory) (order : List TxnId) (s n : ℕ) (other : TxnId) (b : TimedTxn) → ExplainsWhole (strict_history timed) order → timed_at timed other ≡ Some b → last_since (latest_begin b.span timed) b.span (session_of timed s) ≡ Some n → Precedes order (record { session = s; number = n }) other
read_precedes timed order s n other b h there e = by_place (stands (untimed timed) order other (keeps_untimed timed order h) (within_session timed other b there)) (last_at timed b.span s n (since_is_last (latest_begin b.span timed) b.span (session_of timed s) n e))
  where
    source : TxnId
    source = record { session = s; number = n }

    by_place : IsAt order other → (u : TimedTxn) × (timed_at timed source ≡ Some u) × (ended_before u.span b.span ≡ true) → Precedes order source other
    by_place (i, here) (u, at, test) = by_split (split_at order i other here)
      where
        by_split : (front back : List TxnId) × (order ≡ front ++ other ∷ back) × (length front ≡ i) → Precedes order source other
        by_split (front, back, split, size) = by_last (met (found_received timed source u at))
          where
            zero_first : 0 + s ≡ s
            zero_first = omega arith

            met : MeetsWhole (strict_history timed) front (end_key source) (By source)
            met = subst (λ j. MeetsWhole (strict_history timed) front (read_of j n).0 (read_of j n).1) zero_first (end_has (λ read. MeetsWhole (strict_history timed) front read.0 read.1) (latest_begin b.span timed) b.span 0 timed (all_right (λ read. MeetsWhole (strict_history timed) front read.0 read.1) b.txn.reads (end_reads b.span timed) (all_met timed order front back other b h split there)) s n e)

            by_last : IsLastWriter (txn_at (strict_history timed)) (end_key source) front source → Precedes order source other
            by_last (older, newer, inside, writes, none) = front_precedes order front back older newer source other split inside

-- Whoever ended before another one began comes before it, if that one began before this time.
abbrev pub KeepsTimeBelow : TimedHistory → List TxnId → ℕ → Type 0
KeepsTimeBelow timed order bound = (one other : TxnId) (a b : TimedTxn) (ended began : ℕ) → timed_at timed one ≡ Some a → a.span.ended ≡ Some ended → timed_at timed other ≡ Some b → b.span.began ≡ Some began → ended < began → began < bound → Precedes order one other

-- the last of a session that ended before another began stands before that: its end is read, or it ended before one began whose end is
last_precedes : (timed : TimedHistory) (order : List TxnId) (bound s n : ℕ) (other : TxnId) (b : TimedTxn) (began : ℕ) → ExplainsWhole (strict_history timed) order → KeepsTimeBelow timed order bound → timed_at timed other ≡ Some b → b.span.began ≡ Some began → began < suc bound → last_before b.span 0 (session_of timed s) ≡ Some n → Precedes order (record { session = s; number = n }) other
last_precedes timed order bound s n other b began h kept there was low e = by_end (is_earlier (span_at (session_of timed s) (Some n)).ended since) refl
  where
    since : Option ℕ
    since = latest_begin b.span timed

    source : TxnId
    source = record { session = s; number = n }

    keeps : KeepsSessions (untimed timed) order
    keeps = keeps_untimed timed order h

    span_there : (id : TxnId) (u : TimedTxn) → timed_at timed id ≡ Some u → span_at (session_of timed id.session) (Some id.number) ≡ u.span
    span_there id u at = ap span_of at

    through : (ended time : ℕ) → (span_at (session_of timed s) (Some n)).ended ≡ Some ended → since ≡ Some time → ended < time → Precedes order source other
    through ended time is latest below = by_found (last_at timed b.span s n e) (last_at timed b.span its.session its.number its.last)
      where
        its : BeganThen b.span timed time
        its = whose_begin b.span timed time latest

        middle : TxnId
        middle = record { session = its.session; number = its.number }

        early : time < began
        early = by_time (from_earlier (Some time) b.span.began its.earlier)
          where
            by_time : (t o : ℕ) × (Some time ≡ Some t) × (b.span.began ≡ Some o) × (t < o) → time < began
            by_time (t, o, same, then, less) =
                let first : time ≡ t = cc in
                let other_is : Some o ≡ Some began = sym then ∙ was in
                let second : o ≡ began = cc in
                omega (arith, first, second, less)

        by_found : (u : TimedTxn) × (timed_at timed source ≡ Some u) × (ended_before u.span b.span ≡ true) → (v : TimedTxn) × (timed_at timed middle ≡ Some v) × (ended_before v.span b.span ≡ true) → Precedes order source other
        by_found (u, at, _) (v, here, _) = before_after (untimed timed) order source middle other keeps first (second (is_earlier (span_at (session_of timed its.session) (Some its.number)).ended since) refl)
          where
            begins : v.span.began ≡ Some time
            begins = sym (ap (λ (x : Span). x.began) (span_there middle v here)) ∙ its.is

            first : Precedes order source middle
            first = kept source middle u v ended time at (sym (ap (λ (x : Span). x.ended) (span_there source u at)) ∙ is) here begins below (omega (arith, early, low))

            never : is_earlier (span_at (session_of timed its.session) (Some its.number)).ended since ≡ true → ⊥
            never test = by_times (from_earlier (span_at (session_of timed its.session) (Some its.number)).ended since test)
              where
                by_times : (x y : ℕ) × ((span_at (session_of timed its.session) (Some its.number)).ended ≡ Some x) × (since ≡ Some y) × (x < y) → ⊥
                by_times (x, y, ends, then, less) =
                    let twice : Some y ≡ Some time = sym then ∙ latest in
                    let same : y ≡ time = cc in
                    never_twice (untimed timed) order middle keeps (kept middle middle v v x time here (sym (ap (λ (z : Span). z.ended) (span_there middle v here)) ∙ ends) here begins (omega (arith, less, same)) (omega (arith, early, low)))

            second : (late : Bool) → is_earlier (span_at (session_of timed its.session) (Some its.number)).ended since ≡ late → Precedes order middle other
            second false test = read_precedes timed order its.session its.number other b h there (last_is_since since b.span (session_of timed its.session) its.number its.last test)
            second true test = absurd (never test)

    by_end : (early : Bool) → is_earlier (span_at (session_of timed s) (Some n)).ended since ≡ early → Precedes order source other
    by_end false test = read_precedes timed order s n other b h there (last_is_since since b.span (session_of timed s) n e test)
    by_end true test = by_times (from_earlier (span_at (session_of timed s) (Some n)).ended since test)
      where
        by_times : (ended time : ℕ) × ((span_at (session_of timed s) (Some n)).ended ≡ Some ended) × (since ≡ Some time) × (ended < time) → Precedes order source other
        by_times (ended, time, is, latest, below) = through ended time is latest below

keeps_below : (timed : TimedHistory) (order : List TxnId) (bound : ℕ) → ExplainsWhole (strict_history timed) order → KeepsTimeBelow timed order bound
keeps_below timed order zero h one other a b ended began at is there was below low = absurd (omega (arith, low))
keeps_below timed order (suc bound) h one other a b ended began at is there was below low = by_last (covered_before b.span 0 (session_of timed one.session) one.number a at (to_test a.span b.span ended began is was below)) (keeps_below timed order bound h)
  where
    keeps : KeepsSessions (untimed timed) order
    keeps = keeps_untimed timed order h

    by_last : (n : ℕ) × (last_before b.span 0 (session_of timed one.session) ≡ Some n) × (0 + one.number ≤ n) → KeepsTimeBelow timed order bound → Precedes order one other
    by_last (n, e, high) kept = by_number (cases_lt one.number n) (last_precedes timed order bound one.session n other b began h kept there was low e) (last_at timed b.span one.session n e)
      where
        source : TxnId
        source = record { session = one.session; number = n }

        by_number : (one.number < n) ⊎ (n ≤ one.number) → Precedes order source other → (u : TimedTxn) × (timed_at timed source ≡ Some u) × (ended_before u.span b.span ≡ true) → Precedes order one other
        by_number (inl earlier) before (u, found, test) = before_after (untimed timed) order one source other keeps (in_turn (untimed timed) order one source keeps refl earlier (within_session timed source u found)) before
        by_number (inr last) before _ = let same : n ≡ one.number = omega (arith, last, high) in subst (λ k. Precedes order (record { session = one.session; number = k }) other) same before

keeps_time : (timed : TimedHistory) (order : List TxnId) → ExplainsWhole (strict_history timed) order → (one other : TxnId) → EndedBefore timed one other → Precedes order one other
keeps_time timed order h one other (a, b, ended, began, at, is, there, was, below) = keeps_below timed order (began + 1) h one other a b ended began at is there was below (omega arith)

pub strict_order : (timed : TimedHistory) (order : List TxnId) → HasRoomForTimes timed → ExplainsWhole (strict_history timed) order → IsStrictOrder timed order
strict_order timed order room h = record {
  explains = record {
    sessions = keeps_untimed timed order h;
    reads = λ front back id split txn at. by_found front back id split txn (timed_at timed id) refl (sym (untimed_at timed id) ∙ at);
  };
  real_time = keeps_time timed order h;
}
  where
    by_found : (front back : List TxnId) (id : TxnId) → order ≡ front ++ id ∷ back → (txn : Txn) (found : Option TimedTxn) → timed_at timed id ≡ found → option_map (λ (t : TimedTxn). t.txn) found ≡ Some txn → All (λ read. MeetsWhole (untimed timed) front read.0 read.1) txn.reads
    by_found front back id split txn None at is = absurd cc
    by_found front back id split txn (Some t) at is =
        let same : t.txn ≡ txn = cc in
        subst (λ (x : Txn). All (λ read. MeetsWhole (untimed timed) front read.0 read.1) (x.reads)) same
        (λ k d within. meets_untimed timed front (slice_index_or t.txn.reads k d).0 (slice_index_or t.txn.reads k d).1 ((low_keys timed id t room at).reads k d within)
        (all_left (λ read. MeetsWhole (strict_history timed) front read.0 read.1) t.txn.reads (end_reads t.span timed) (all_met timed order front back id t h split at) k d within))

-- ---- to the rewritten history

-- the key of one that stands before is read
end_met : (timed : TimedHistory) (order front back : List TxnId) (id source : TxnId) (t u : TimedTxn) → HasRoomForTimes timed → IsStrictOrder timed order → order ≡ front ++ id ∷ back → timed_at timed id ≡ Some t → timed_at timed source ≡ Some u → ended_before u.span t.span ≡ true → IsLastWriter (txn_at (strict_history timed)) (end_key source) front source
end_met timed order front back id source t u room h split at there test = by_times (from_test u.span t.span test)
  where
    by_times : (ended began : ℕ) × (u.span.ended ≡ Some ended) × (t.span.began ≡ Some began) × (ended < began) → IsLastWriter (txn_at (strict_history timed)) (end_key source) front source
    by_times (ended, began, is, was, below) = by_front (precedes_front (untimed timed) order front back source id h.explains.sessions split (h.real_time source id (u, t, ended, began, there, is, at, was, below)))
      where
        by_front : (older newer : List TxnId) × (front ≡ older ++ source ∷ newer) × ((k : ℕ) → slice_get newer k ≡ Some source → ⊥) → IsLastWriter (txn_at (strict_history timed)) (end_key source) front source
        by_front (older, newer, inside, once) = (older, newer, inside, writes_own timed source u ended there is, λ k d within. none k d within (writes_key (txn_at (strict_history timed) (slice_index_or newer k d)) (end_key source)) refl)
          where
            none : (k : ℕ) (d : TxnId) → k < length newer → (b : Bool) → writes_key (txn_at (strict_history timed) (slice_index_or newer k d)) (end_key source) ≡ b → writes_key (txn_at (strict_history timed) (slice_index_or newer k d)) (end_key source) ≡ false
            none k d within false e = e
            none k d within true e = absurd (once k (slice_get-get_or newer k d within ∙ ap (λ (x : TxnId). Some x) (only_own timed source (slice_index_or newer k d) room (low_number timed source u room there) e)))

pub explains_rewritten : (timed : TimedHistory) (order : List TxnId) → HasRoomForTimes timed → IsStrictOrder timed order → ExplainsWhole (strict_history timed) order
explains_rewritten timed order room h = record {
  sessions = λ s. h.explains.sessions s ∙ sym (same_ids timed s);
  reads = λ front back id split txn at. by_found front back id split txn (timed_at timed id) refl (sym (strict_at timed id) ∙ at);
}
  where
    by_found : (front back : List TxnId) (id : TxnId) → order ≡ front ++ id ∷ back → (txn : Txn) (found : Option TimedTxn) → timed_at timed id ≡ found → option_map (strict_txn timed id) found ≡ Some txn → All (λ read. MeetsWhole (strict_history timed) front read.0 read.1) txn.reads
    by_found front back id split txn None at is = absurd cc
    by_found front back id split txn (Some t) at is =
        let same : strict_txn timed id t ≡ txn = cc in
        subst (λ (x : Txn). All (λ read. MeetsWhole (strict_history timed) front read.0 read.1) (x.reads)) same
        (All-append (λ read. MeetsWhole (strict_history timed) front read.0 read.1) t.txn.reads (end_reads t.span timed) own (ends_have (λ read. MeetsWhole (strict_history timed) front read.0 read.1) (latest_begin t.span timed) t.span 0 timed ends))
      where
        own : All (λ read. MeetsWhole (strict_history timed) front read.0 read.1) t.txn.reads
        own = λ k d within. meets_strict timed front (slice_index_or t.txn.reads k d).0 (slice_index_or t.txn.reads k d).1 ((low_keys timed id t room at).reads k d within) (h.explains.reads front back id split t.txn (untimed_at timed id ∙ ap (option_map (λ (t : TimedTxn). t.txn)) at) k d within)

        ends : (s n : ℕ) → last_before t.span 0 (session_of timed s) ≡ Some n → MeetsWhole (strict_history timed) front (read_of (0 + s) n).0 (read_of (0 + s) n).1
        ends s n e = by_source (last_at timed t.span s n e)
          where
            zero_first : s ≡ 0 + s
            zero_first = omega arith

            by_source : (u : TimedTxn) × (timed_at timed (record { session = s; number = n }) ≡ Some u) × (ended_before u.span t.span ≡ true) → MeetsWhole (strict_history timed) front (read_of (0 + s) n).0 (read_of (0 + s) n).1
            by_source (u, there, test) = subst (λ j. MeetsWhole (strict_history timed) front (read_of j n).0 (read_of j n).1) zero_first (λ received. end_met timed order front back id (record { session = s; number = n }) t u room h split at there test)

pub same_orders : SameOrdersRewritten
same_orders timed order room = (explains_rewritten timed order room, strict_order timed order room)
