-- A history keeps snapshot isolation exactly where some order explains its split history.
use Rattle.std.proofs.Common.{◌≡◌, ℕ, suc, ◌<◌, ◌^◌, ◌↔◌, Bool, true, false, ◌||◌, List, [], ◌∷◌, ◌++◌, length, Some, None, Option, refl, sym, ap, subst, ◌∙◌, inl, inr, arith}
use Rattle.std.specs.Prelude.{map, filter, All, option_map, nat_eq}
use Rattle.std.specs.List.{slice_index_or, list_any}
use Rattle.std.proofs.lemmas.Bool.{false≢true, eq-eqb, eqb-true}
use Rattle.std.proofs.lemmas.List.{length-map, map-append, get_or-map}
use Rattle.std.proofs.lemmas.List.Elements.{All-map}
use Rattle.std.proofs.lemmas.List.Folds.{list_any_at}
use Rattle.txn.specs.declared.transactions.TxnId.{TxnId}
use Rattle.txn.specs.declared.transactions.Source.{Source}
use Rattle.txn.specs.declared.transactions.Txn.{Txn}
use Rattle.txn.specs.Transactions.{KeepsEpoch}
use Rattle.txn.specs.History.{History, txn_at, session_of, in_session, ids_from, writes_key, IsLastWriter}
use Rattle.order_check.specs.Whole.{MeetsWhole, ExplainsWhole, HasOrderWhole}
use Rattle.isolation_histories.specs.declared.events.Event.{Event}
use Rattle.isolation_histories.specs.declared.events.Event.TheVariants.{Begin, Commit}
use Rattle.isolation_histories.specs.Events.{event_in_session, events_from}
use Rattle.isolation_histories.specs.Halves.{begin_half, commit_half, half_of, event_at}
use Rattle.isolation_histories.specs.Snapshot.{IsSnapshotOrder, KeepsSnapshotIsolation}
use Rattle.isolation_histories.specs.Split.{begin_read_of, commit_read_of, star, begin_txn, commit_txn, split_history, HistoryCanBeSplit}
use Rattle.isolation_histories.proofs.CommitReads.{WritesLow}
use Rattle.isolation_histories.proofs.EventHalves.{filter_halves, split_ids, parted, halves_of_events, half_of_event, events_of_halves}
use Rattle.isolation_histories.proofs.EventPlaces.{AreEvents}
use Rattle.isolation_histories.proofs.FromOrder.{OwnReadsMet, begin_received, sees_last, are_apart}
use Rattle.isolation_histories.proofs.Lookups.{session_split, at_begin, at_commit}
use Rattle.isolation_histories.proofs.ToOrder.{begin_read, commit_read}

-- a number is among those of a list of numbers below a bound
any_low : (key : ℕ) (keys : List ℕ) → ((k d : ℕ) → k < length keys → slice_index_or keys k d < 2 ^ 63) → list_any (nat_eq key) keys ≡ true → key < 2 ^ 63
any_low key [] low h = absurd (false≢true h)
any_low key (k ∷ keys) low h = by_test (nat_eq key k) refl h (any_low key keys (λ n d within. low (suc n) d (omega (arith, within))))
  where
    by_test : (t : Bool) → nat_eq key k ≡ t → (t || list_any (nat_eq key) keys) ≡ true → (list_any (nat_eq key) keys ≡ true → key < 2 ^ 63) → key < 2 ^ 63
    by_test true e _ _ = let same : key ≡ k = eqb-true key k e in let first = low 0 0 (omega arith) in omega (arith, same, first)
    by_test false e rest more = more rest

writes_low : (history : History) → HistoryCanBeSplit history → WritesLow history
writes_low history can id key writes = by_found (txn_at history id) refl writes
  where
    by_found : (found : Option Txn) → txn_at history id ≡ found → writes_key found key ≡ true → key < 2 ^ 63
    by_found None e h = absurd (false≢true h)
    by_found (Some txn) e h = any_low key txn.writes (can id txn e).writes h

-- who reads the epoch key writes it
epoch_written : (txn : Txn) → KeepsEpoch txn → (k : ℕ) (d : ℕ × Source) → k < length txn.reads → (slice_index_or txn.reads k d).0 ≡ 0 → list_any (nat_eq 0) txn.writes ≡ true
epoch_written txn (inl (source, reads, writes)) k d within is = ap (list_any (nat_eq 0)) writes
epoch_written txn (inr spares) k d within is = absurd (spares.reads k d within is)

-- the sessions of the one are those of the other
pub sessions_split : (history : History) (events : List Event) → AreEvents history events → (s : ℕ) → filter (in_session s) (map half_of events) ≡ ids_from s 0 (session_of (split_history history) s)
sessions_split history events are s = filter_halves s events ∙ ap (map half_of) (are s) ∙ sym (split_ids s 0 (session_of history s)) ∙ ap (ids_from s 0) (sym (session_split history s))

pub sessions_whole : (history : History) (events : List Event) → ((s : ℕ) → filter (in_session s) (map half_of events) ≡ ids_from s 0 (session_of (split_history history) s)) → AreEvents history events
sessions_whole history events are s =
    let halves : map half_of (filter (event_in_session s) events) ≡ map half_of (events_from s 0 (session_of history s)) = sym (filter_halves s events) ∙ are s ∙ ap (ids_from s 0) (session_split history s) ∙ split_ids s 0 (session_of history s) in
    sym (events_of_halves (filter (event_in_session s) events)) ∙ ap (map event_at) halves ∙ events_of_halves (events_from s 0 (session_of history s))

-- what stands for an event is met by what stands for those in front
reads_met : (history : History) (events front back : List Event) (event : Event) (txn : Txn) → HistoryCanBeSplit history → IsSnapshotOrder history events → events ≡ front ++ event ∷ back → txn_at (split_history history) (half_of event) ≡ Some txn → All (λ read. MeetsWhole (split_history history) (map half_of front) read.0 read.1) txn.reads
reads_met history events front back (Begin id) txn can h split at = by_found (txn_at history id) refl (sym (at_begin history id) ∙ at)
  where
    by_found : (found : Option Txn) → txn_at history id ≡ found → option_map begin_txn found ≡ Some txn → All (λ read. MeetsWhole (split_history history) (map half_of front) read.0 read.1) txn.reads
    by_found None e is = absurd cc
    by_found (Some one) e is =
        let same : begin_txn one ≡ txn = cc in
        subst (λ t. All (λ read. MeetsWhole (split_history history) (map half_of front) read.0 read.1) (t.reads)) same
        (All-map (λ read. MeetsWhole (split_history history) (map half_of front) read.0 read.1) begin_read_of one.reads (λ k d within.
        begin_read history events front back id (slice_index_or one.reads k d).0 (slice_index_or one.reads k d).1 h.sessions h.apart split ((can id one e).reads k d within)
        (λ is_epoch. ap (λ o. writes_key o 0) e ∙ epoch_written one (can id one e).epoch k d within is_epoch)
        (h.reads front back id split one e k d within)))
reads_met history events front back (Commit id) txn can h split at = by_found (txn_at history id) refl (sym (at_commit history id) ∙ at)
  where
    by_found : (found : Option Txn) → txn_at history id ≡ found → option_map (commit_txn id) found ≡ Some txn → All (λ read. MeetsWhole (split_history history) (map half_of front) read.0 read.1) txn.reads
    by_found None e is = absurd cc
    by_found (Some one) e is =
        let same : commit_txn id one ≡ txn = cc in
        subst (λ t. All (λ read. MeetsWhole (split_history history) (map half_of front) read.0 read.1) (t.reads)) same
        (All-map (λ read. MeetsWhole (split_history history) (map half_of front) read.0 read.1) (commit_read_of id) one.writes (λ k d within. λ received.
        commit_read history events front back id (slice_index_or one.writes k d) h.sessions h.apart (writes_low history can) split
        (ap (λ o. writes_key o (slice_index_or one.writes k d)) e ∙ list_any_at (nat_eq (slice_index_or one.writes k d)) one.writes k d within (eq-eqb (slice_index_or one.writes k d) (slice_index_or one.writes k d) refl))))

-- Begins and commits that are snapshot isolation explain the split history.
pub explains_split : (history : History) (events : List Event) → HistoryCanBeSplit history → IsSnapshotOrder history events → ExplainsWhole (split_history history) (map half_of events)
explains_split history events can h = record {
  sessions = sessions_split history events h.sessions;
  reads = λ front back id split txn at.
      subst (λ ids. All (λ read. MeetsWhole (split_history history) ids read.0 read.1) txn.reads) (halves_of_events front)
      (reads_met history events (map event_at front) (map event_at back) (event_at id) txn can h (parted events front back id split) (ap (txn_at (split_history history)) (half_of_event id) ∙ at));
}

-- a number that is among those of a list is at a place of it
place_among : (key : ℕ) (keys : List ℕ) → list_any (nat_eq key) keys ≡ true → (k : ℕ) × (k < length keys) × ((d : ℕ) → slice_index_or keys k d ≡ key)
place_among key [] h = absurd (false≢true h)
place_among key (one ∷ keys) h = by_test (nat_eq key one) refl h (place_among key keys)
  where
    more : (k : ℕ) × (k < length keys) × ((d : ℕ) → slice_index_or keys k d ≡ key) → (k : ℕ) × (k < suc (length keys)) × ((d : ℕ) → slice_index_or (one ∷ keys) k d ≡ key)
    more (k, within, is) = (suc k, omega arith, is)

    by_test : (t : Bool) → nat_eq key one ≡ t → (t || list_any (nat_eq key) keys) ≡ true → (list_any (nat_eq key) keys ≡ true → (k : ℕ) × (k < length keys) × ((d : ℕ) → slice_index_or keys k d ≡ key)) → (k : ℕ) × (k < suc (length keys)) × ((d : ℕ) → slice_index_or (one ∷ keys) k d ≡ key)
    by_test true e _ _ = (0, omega arith, λ d. sym (eqb-true key one e))
    by_test false e rest place = more (place rest)

-- what all of a list made of another have is had at each place of that other
at_mapped : {X Y : Type 0} (P : Y → Type 0) (f : X → Y) (xs : List X) → All P (map f xs) → (k : ℕ) (d : X) → k < length xs → P (f (slice_index_or xs k d))
at_mapped P f xs all k d within = subst P (get_or-map f xs k d (f d) within) (all k (f d) (subst (λ n. k < n) (sym (length-map xs f)) within))

own_reads : (history : History) (events : List Event) → ExplainsWhole (split_history history) (map half_of events) → OwnReadsMet history events
own_reads history events h = λ front back id key split writes. by_found front back id key split (txn_at history id) refl writes
  where
    by_found : (front back : List Event) (id : TxnId) (key : ℕ) → events ≡ front ++ Commit id ∷ back → (found : Option Txn) → txn_at history id ≡ found → writes_key found key ≡ true → IsLastWriter (txn_at (split_history history)) (star key) (map half_of front) (begin_half id)
    by_found front back id key split None e writes = absurd (false≢true writes)
    by_found front back id key split (Some txn) e writes = by_place (place_among key txn.writes writes)
      where
        all : All (λ read. MeetsWhole (split_history history) (map half_of front) read.0 read.1) (map (commit_read_of id) txn.writes)
        all = h.reads (map half_of front) (map half_of back) (commit_half id) (ap (map half_of) split ∙ map-append half_of front (Commit id ∷ back)) (commit_txn id txn) (at_commit history id ∙ ap (option_map (commit_txn id)) e)

        by_place : (k : ℕ) × (k < length txn.writes) × ((d : ℕ) → slice_index_or txn.writes k d ≡ key) → IsLastWriter (txn_at (split_history history)) (star key) (map half_of front) (begin_half id)
        by_place (k, within, is) = subst (λ n. IsLastWriter (txn_at (split_history history)) (star n) (map half_of front) (begin_half id)) (is 0) (at_mapped (λ read. MeetsWhole (split_history history) (map half_of front) read.0 read.1) (commit_read_of id) txn.writes all k 0 within (begin_received history id txn e))

-- An order that explains the split history is one of begins and commits that are snapshot isolation.
pub isolates : (history : History) (events : List Event) → ExplainsWhole (split_history history) (map half_of events) → IsSnapshotOrder history events
isolates history events h =
    let are : AreEvents history events = sessions_whole history events h.sessions in
    record {
      sessions = are;
      reads = λ front back id split txn at. λ k d within. sees_last history front (slice_index_or txn.reads k d).0 (slice_index_or txn.reads k d).1
          (at_mapped (λ read. MeetsWhole (split_history history) (map half_of front) read.0 read.1) begin_read_of txn.reads
          (h.reads (map half_of front) (map half_of back) (begin_half id) (ap (map half_of) split ∙ map-append half_of front (Begin id ∷ back)) (begin_txn txn) (at_begin history id ∙ ap (option_map begin_txn) at))
          k d within);
      apart = are_apart history events are (own_reads history events h);
    }

pub events_isolate : (history : History) (order : List TxnId) → ExplainsWhole (split_history history) order → IsSnapshotOrder history (map event_at order)
events_isolate history order h = isolates history (map event_at order) (subst (ExplainsWhole (split_history history)) (sym (halves_of_events order)) h)

pub kept_as_explained : (history : History) → HistoryCanBeSplit history → KeepsSnapshotIsolation history ↔ HasOrderWhole (split_history history)
kept_as_explained history can = (there, back)
  where
    there : KeepsSnapshotIsolation history → HasOrderWhole (split_history history)
    there (events, h) = (map half_of events, explains_split history events can h)

    back : HasOrderWhole (split_history history) → KeepsSnapshotIsolation history
    back (order, h) = (map event_at order, events_isolate history order h)
