-- An order that explains the split history is one of begins and commits that are snapshot isolation.
use Rattle.std.proofs.Common.{◌≡◌, ◌≢◌, ℕ, ◌+◌, ◌<◌, ◌≤◌, ◌⊎◌, false, List, ◌∷◌, ◌++◌, length, Some, None, Option, refl, sym, ap, subst, ◌∙◌, inl, inr, arith, suc, zero, IsSome}
use Rattle.std.specs.Prelude.{map, option_map}
use Rattle.std.specs.List.{slice_get, slice_index_or}
use Rattle.std.proofs.lemmas.Bool.{false≢true, cases_lt}
use Rattle.std.proofs.lemmas.List.{length-map, get_or-map}
use Rattle.std.proofs.lemmas.Option.{slice_get-get_or, slice_get_within}
use Rattle.list_lemmas.proofs.Places.{place_in, place_left, place_right, split_at}
use Rattle.list_lemmas.specs.Precedes.{Precedes}
use Rattle.txn.specs.declared.transactions.TxnId.{TxnId}
use Rattle.txn.specs.declared.transactions.Source.{Source}
use Rattle.txn.specs.declared.transactions.Source.TheVariants.{Init, By}
use Rattle.txn.specs.declared.transactions.Txn.{Txn}
use Rattle.txn.specs.History.{History, Received, txn_at, writes_key, Writes, NoneWrites, IsLastWriter}
use Rattle.order_check.specs.Whole.{MeetsWhole}
use Rattle.isolation_histories.specs.declared.events.Event.{Event}
use Rattle.isolation_histories.specs.declared.events.Event.TheVariants.{Begin, Commit}
use Rattle.isolation_histories.specs.Halves.{begin_half, commit_half, half_of, event_at}
use Rattle.isolation_histories.specs.Snapshot.{commits_key, NoneCommits, SeesLastCommit}
use Rattle.isolation_histories.specs.Split.{star, split_source, begin_txn, commit_txn, split_history}
use Rattle.isolation_histories.proofs.CommitReads.{AreApart, writer_events}
use Rattle.isolation_histories.proofs.EventHalves.{parted, halves_of_events, event_of_half}
use Rattle.isolation_histories.proofs.EventPlaces.{AreEvents, one_place}
use Rattle.isolation_histories.proofs.Lookups.{at_begin, at_commit, begin_writes, commit_writes}

-- what is received of a history is received of the split one
pub commit_received : (history : History) (id : TxnId) → Received history id → Received (split_history history) (commit_half id)
commit_received history id received = subst (λ o. IsSome o) (sym (at_commit history id)) (by_found (txn_at history id) received)
  where
    by_found : (found : Option Txn) → IsSome found → IsSome (option_map (commit_txn id) found)
    by_found None some = some
    by_found (Some txn) some = some

pub begin_received : (history : History) (id : TxnId) (txn : Txn) → txn_at history id ≡ Some txn → Received (split_history history) (begin_half id)
begin_received history id txn at = subst (λ o. IsSome o) (sym (at_begin history id ∙ ap (option_map begin_txn) at)) refl

-- of events of which none that stands for one writes the key, none commits it
none_commits : (history : History) (key : ℕ) (events : List Event) → NoneWrites (txn_at (split_history history)) key (map half_of events) → NoneCommits history key events
none_commits history key events none = λ k d within.
    by_event (slice_index_or events k d) (ap (λ id. writes_key (txn_at (split_history history) id) key) (sym (get_or-map half_of events k d (half_of d) within)) ∙ none k (half_of d) (subst (λ n. k < n) (sym (length-map events half_of)) within))
  where
    by_event : (event : Event) → writes_key (txn_at (split_history history) (half_of event)) key ≡ false → commits_key history key event ≡ false
    by_event (Begin x) e = refl
    by_event (Commit x) e = sym (commit_writes history x key) ∙ e

-- a read that is met by what stands for the events in front sees the last commit
pub sees_last : (history : History) (front : List Event) (key : ℕ) (source : Source) → MeetsWhole (split_history history) (map half_of front) key (split_source source) → SeesLastCommit history front key source
sees_last history front key Init met = none_commits history key front met
sees_last history front key (By writer) met = λ received. seen (met (commit_received history writer received))
  where
    seen : IsLastWriter (txn_at (split_history history)) key (map half_of front) (commit_half writer) → (older newer : List Event) × (front ≡ older ++ Commit writer ∷ newer) × Writes (txn_at history) writer key × NoneCommits history key newer
    seen (older, newer, e, writes, none) = (
      map event_at older,
      map event_at newer,
      parted front older newer (commit_half writer) e ∙ ap (λ event. map event_at older ++ event ∷ map event_at newer) (event_of_half (Commit writer)),
      sym (commit_writes history writer key) ∙ writes,
      none_commits history key (map event_at newer) (subst (λ ids. NoneWrites (txn_at (split_history history)) key ids) (sym (halves_of_events newer)) none),
    )

-- of a transaction that commits here, each key that it writes is read from its own begin
abbrev pub OwnReadsMet : History → List Event → Type 0
OwnReadsMet history events = (front back : List Event) (id : TxnId) (key : ℕ) → events ≡ front ++ Commit id ∷ back → Writes (txn_at history) id key → IsLastWriter (txn_at (split_history history)) (star key) (map half_of front) (begin_half id)

-- no other writer of the key begins between the begin and the commit of one
begins_apart : (history : History) (events : List Event) (a b : TxnId) (key i j k : ℕ) → AreEvents history events → OwnReadsMet history events → Writes (txn_at history) a key → Writes (txn_at history) b key → slice_get events i ≡ Some (Begin a) → slice_get events j ≡ Some (Commit a) → slice_get events k ≡ Some (Begin b) → i < k → k < j → ⊥
begins_apart history events a b key i j k are met writes other_writes begins commits other_begins after before = by_split (split_at events j (Commit a) commits)
  where
    by_split : (front back : List Event) × (events ≡ front ++ Commit a ∷ back) × (length front ≡ j) → ⊥
    by_split (front, back, split, size) = by_writer (met front back a key split writes)
      where
        by_writer : IsLastWriter (txn_at (split_history history)) (star key) (map half_of front) (begin_half a) → ⊥
        by_writer (older, newer, e, _, none) = by_place (place_in (map event_at older) (Begin a ∷ map event_at newer) k (Begin b) (subst (λ es. slice_get es k ≡ Some (Begin b)) parts in_front))
          where
            parts : front ≡ map event_at older ++ Begin a ∷ map event_at newer
            parts = parted front older newer (begin_half a) e ∙ ap (λ event. map event_at older ++ event ∷ map event_at newer) (event_of_half (Begin a))

            in_front : slice_get front k ≡ Some (Begin b)
            in_front = by_side (place_in front (Commit a ∷ back) k (Begin b) (subst (λ es. slice_get es k ≡ Some (Begin b)) split other_begins))
              where
                by_side : (slice_get front k ≡ Some (Begin b)) ⊎ ((m : ℕ) × (k ≡ length front + m) × (slice_get (Commit a ∷ back) m ≡ Some (Begin b))) → slice_get front k ≡ Some (Begin b)
                by_side (inl found) = found
                by_side (inr (m, e, found)) = absurd (omega (arith, e, before, size))

            begin_place : i ≡ length (map event_at older) + 0
            begin_place = one_place history events (Begin a) i (length (map event_at older) + 0) are begins (subst (λ es. slice_get es (length (map event_at older) + 0) ≡ Some (Begin a)) (sym split) (place_left front (Commit a ∷ back) (length (map event_at older) + 0) (Begin a) (subst (λ es. slice_get es (length (map event_at older) + 0) ≡ Some (Begin a)) (sym parts) (place_right (map event_at older) (Begin a ∷ map event_at newer) 0 (Begin a) refl))))

            none_newer : (m : ℕ) → slice_get (map event_at newer) m ≡ Some (Begin b) → ⊥
            none_newer m found =
                let inside : m < length (map event_at newer) = slice_get_within (map event_at newer) m (Begin b) found in
                let event = slice_index_or (map event_at newer) m (Begin b) in
                let same : Some event ≡ Some (Begin b) = sym (slice_get-get_or (map event_at newer) m (Begin b) inside) ∙ found in
                let e : event ≡ Begin b = cc in
                let silent : writes_key (txn_at (split_history history) (half_of event)) (star key) ≡ false = ap (λ id. writes_key (txn_at (split_history history) id) (star key)) (sym (get_or-map half_of (map event_at newer) m (Begin b) (begin_half b) inside) ∙ ap (λ ids. slice_index_or ids m (begin_half b)) (halves_of_events newer)) ∙ none m (begin_half b) (subst (λ n. m < n) (length-map newer event_at) inside) in
                false≢true (sym silent ∙ ap (λ x. writes_key (txn_at (split_history history) (half_of x)) (star key)) e ∙ begin_writes history b key ∙ other_writes)

            by_place : (slice_get (map event_at older) k ≡ Some (Begin b)) ⊎ ((m : ℕ) × (k ≡ length (map event_at older) + m) × (slice_get (Begin a ∷ map event_at newer) m ≡ Some (Begin b))) → ⊥
            by_place (inl found) = let inside = slice_get_within (map event_at older) k (Begin b) found in omega (arith, inside, begin_place, after)
            by_place (inr (zero, e, found)) = omega (arith, e, begin_place, after)
            by_place (inr (suc m, e, found)) = none_newer m found

-- so they are apart
pub are_apart : (history : History) (events : List Event) → AreEvents history events → OwnReadsMet history events → AreApart history events
are_apart history events are met = λ a b key other writes other_writes. by_events a b key other writes other_writes (writer_events history events a key are writes) (writer_events history events b key are other_writes)
  where
    by_events : (a b : TxnId) (key : ℕ) → a ≢ b → Writes (txn_at history) a key → Writes (txn_at history) b key → Precedes events (Begin a) (Commit a) → Precedes events (Begin b) (Commit b) → Precedes events (Commit a) (Begin b) ⊎ Precedes events (Commit b) (Begin a)
    by_events a b key other writes other_writes (i, j, below, begins, commits) (k, m, other_below, other_begins, other_commits) = by_first (cases_lt i k)
      where
        second_behind : i < k → (j < k) ⊎ (k ≤ j) → Precedes events (Commit a) (Begin b) ⊎ Precedes events (Commit b) (Begin a)
        second_behind ahead (inl clear) = inl (j, k, clear, commits, other_begins)
        second_behind ahead (inr within) = by_equal (cases_lt k j)
          where
            by_equal : (k < j) ⊎ (j ≤ k) → Precedes events (Commit a) (Begin b) ⊎ Precedes events (Commit b) (Begin a)
            by_equal (inl before) = absurd (begins_apart history events a b key i j k are met writes other_writes begins commits other_begins ahead before)
            by_equal (inr at) = let e : j ≡ k = omega arith in let same : Some (Commit a) ≡ Some (Begin b) = sym commits ∙ ap (slice_get events) e ∙ other_begins in absurd cc

        first_behind : k < i → (m < i) ⊎ (i ≤ m) → Precedes events (Commit a) (Begin b) ⊎ Precedes events (Commit b) (Begin a)
        first_behind ahead (inl clear) = inr (m, i, clear, other_commits, begins)
        first_behind ahead (inr within) = by_equal (cases_lt i m)
          where
            by_equal : (i < m) ⊎ (m ≤ i) → Precedes events (Commit a) (Begin b) ⊎ Precedes events (Commit b) (Begin a)
            by_equal (inl before) = absurd (begins_apart history events b a key k m i are met other_writes writes other_begins other_commits begins ahead before)
            by_equal (inr at) = let e : m ≡ i = omega arith in let same : Some (Commit b) ≡ Some (Begin a) = sym other_commits ∙ ap (slice_get events) e ∙ begins in absurd cc

        by_first : (i < k) ⊎ (k ≤ i) → Precedes events (Commit a) (Begin b) ⊎ Precedes events (Commit b) (Begin a)
        by_first (inl ahead) = second_behind ahead (cases_lt j k)
        by_first (inr behind) = by_equal (cases_lt k i)
          where
            by_equal : (k < i) ⊎ (i ≤ k) → Precedes events (Commit a) (Begin b) ⊎ Precedes events (Commit b) (Begin a)
            by_equal (inl ahead) = first_behind ahead (cases_lt m i)
            by_equal (inr at) = let e : i ≡ k = omega arith in let same : Some (Begin a) ≡ Some (Begin b) = sym begins ∙ ap (slice_get events) e ∙ other_begins in let one : a ≡ b = cc in absurd (other one)
