-- Begins and commits that are snapshot isolation are an order that explains the split history.
use Rattle.std.proofs.Common.{◌≡◌, ◌≢◌, ℕ, ◌+◌, ◌<◌, ◌^◌, ◌⊎◌, Bool, true, false, List, [], ◌∷◌, ◌++◌, length, Some, None, Option, refl, sym, ap, subst, ◌∙◌, inl, inr, arith, suc, IsSome, length-append}
use Rattle.std.specs.Prelude.{map, option_map}
use Rattle.std.specs.List.{slice_get, slice_index_or}
use Rattle.std.proofs.lemmas.Bool.{false≢true}
use Rattle.std.proofs.lemmas.List.{map-append}
use Rattle.std.proofs.lemmas.List.Elements.{All-map}
use Rattle.std.proofs.lemmas.Option.{slice_get_within}
use Rattle.list_lemmas.proofs.Places.{place_in, place_left, place_right, split_at, IsAt}
use Rattle.list_lemmas.specs.Precedes.{Precedes}
use Rattle.txn.specs.declared.transactions.TxnId.{TxnId}
use Rattle.txn.specs.declared.transactions.Source.{Source}
use Rattle.txn.specs.declared.transactions.Source.TheVariants.{Init, By}
use Rattle.txn.specs.declared.transactions.Txn.{Txn}
use Rattle.txn.specs.History.{History, Received, txn_at, writes_key, Writes, NoneWrites, IsLastWriter}
use Rattle.order_check.specs.Whole.{MeetsWhole}
use Rattle.isolation_histories.specs.declared.events.Event.{Event}
use Rattle.isolation_histories.specs.declared.events.Event.TheVariants.{Begin, Commit}
use Rattle.isolation_histories.specs.Halves.{begin_half, commit_half, half_of}
use Rattle.isolation_histories.specs.Snapshot.{commits_key, NoneCommits, SeesLastCommit}
use Rattle.isolation_histories.specs.Split.{star, split_source, commit_txn, split_history}
use Rattle.isolation_histories.proofs.CommitReads.{AreApart, WritesLow, writer_events, closed_between, at_of, none_writes}
use Rattle.isolation_histories.proofs.EventPlaces.{AreEvents, one_place}
use Rattle.isolation_histories.proofs.Lookups.{at_commit, begin_writes, commit_writes, low_star}

-- what is received of a split history is received of the history
pub received_commit : (history : History) (id : TxnId) → Received (split_history history) (commit_half id) → Received history id
received_commit history id received = by_found (txn_at history id) (subst (λ o. IsSome o) (at_commit history id) received)
  where
    by_found : (found : Option Txn) → IsSome (option_map (commit_txn id) found) → IsSome found
    by_found None some = some
    by_found (Some txn) some = some

-- In front of a transaction that writes the epoch key and sees the last commit of it, no other that writes it has begun since.
no_fence_since : (history : History) (events older newer back : List Event) (id x : TxnId) → AreEvents history events → AreApart history events → events ≡ (older ++ newer) ++ Begin id ∷ back → NoneCommits history 0 newer → Writes (txn_at history) id 0 → Writes (txn_at history) x 0 → IsAt newer (Begin x) → ⊥
no_fence_since history events older newer back id x are apart split none writes other_writes (p, here) = by_events (writer_events history events id 0 are writes) (writer_events history events x 0 are other_writes)
  where
    within : p < length newer
    within = slice_get_within newer p (Begin x) here

    x_begins : slice_get events (length older + p) ≡ Some (Begin x)
    x_begins = subst (λ es. slice_get es (length older + p) ≡ Some (Begin x)) (sym split) (place_left (older ++ newer) (Begin id ∷ back) (length older + p) (Begin x) (place_right older newer p (Begin x) here))

    begins : slice_get events (length (older ++ newer) + 0) ≡ Some (Begin id)
    begins = subst (λ es. slice_get es (length (older ++ newer) + 0) ≡ Some (Begin id)) (sym split) (place_right (older ++ newer) (Begin id ∷ back) 0 (Begin id) refl)

    long : length (older ++ newer) ≡ length older + length newer
    long = length-append older newer

    other : x ≢ id
    other same = let e = one_place history events (Begin id) (length older + p) (length (older ++ newer) + 0) are (subst (λ y. slice_get events (length older + p) ≡ Some (Begin y)) same x_begins) begins in omega (arith, e, long, within)

    committed : (m : ℕ) → slice_get newer m ≡ Some (Commit x) → ⊥
    committed m at =
        let inside : m < length newer = slice_get_within newer m (Commit x) at in
        let event = slice_index_or newer m (Commit x) in
        let same : Some event ≡ Some (Commit x) = sym (at_of newer m (Commit x) inside) ∙ at in
        let e : event ≡ Commit x = cc in
        false≢true (sym (ap (commits_key history 0) (sym e) ∙ none m (Commit x) inside) ∙ other_writes)

    in_newer : (m : ℕ) → length older + p < m → m < length (older ++ newer) + 0 → slice_get events m ≡ Some (Commit x) → ⊥
    in_newer m after before at = by_place (place_in (older ++ newer) (Begin id ∷ back) m (Commit x) (subst (λ es. slice_get es m ≡ Some (Commit x)) split at))
      where
        by_older : (slice_get older m ≡ Some (Commit x)) ⊎ ((k : ℕ) × (m ≡ length older + k) × (slice_get newer k ≡ Some (Commit x))) → ⊥
        by_older (inl found) = let inside = slice_get_within older m (Commit x) found in omega (arith, inside, after)
        by_older (inr (k, e, found)) = committed k found

        by_place : (slice_get (older ++ newer) m ≡ Some (Commit x)) ⊎ ((k : ℕ) × (m ≡ length (older ++ newer) + k) × (slice_get (Begin id ∷ back) k ≡ Some (Commit x))) → ⊥
        by_place (inl found) = by_older (place_in older newer m (Commit x) found)
        by_place (inr (k, e, found)) = omega (arith, e, before)

    by_events : Precedes events (Begin id) (Commit id) → Precedes events (Begin x) (Commit x) → ⊥
    by_events (i, j, below, here, there) (k, m, other_below, x_here, x_there) =
        let a = one_place history events (Begin id) i (length (older ++ newer) + 0) are here begins in
        let b = one_place history events (Begin x) k (length older + p) are x_here x_begins in
        by_side a b (closed_between history events id x 0 i j are apart writes other_writes other here there k m x_here x_there)
      where
        by_side : i ≡ length (older ++ newer) + 0 → k ≡ length older + p → (m < i) ⊎ (j < k) → ⊥
        by_side a b (inl before) = in_newer m (omega (arith, b, other_below)) (omega (arith, a, before)) x_there
        by_side a b (inr behind) = omega (arith, a, b, behind, below, long, within)

-- a read of the transaction that begins here is met by what stands for the events in front
pub begin_read : (history : History) (events front back : List Event) (id : TxnId) (key : ℕ) (source : Source) → AreEvents history events → AreApart history events → events ≡ front ++ Begin id ∷ back → key < 2 ^ 63 → (key ≡ 0 → Writes (txn_at history) id 0) → SeesLastCommit history front key source → MeetsWhole (split_history history) (map half_of front) key (split_source source)
begin_read history events front back id key Init are apart split low fence sees = none_writes history key front low sees (λ x at writes is. no_fence_since history events [] front back id x are apart split (subst (λ k. NoneCommits history k front) is sees) (fence is) writes at)
begin_read history events front back id key (By writer) are apart split low fence sees = λ received. met (sees (received_commit history writer received))
  where
    met : (older newer : List Event) × (front ≡ older ++ Commit writer ∷ newer) × Writes (txn_at history) writer key × NoneCommits history key newer → IsLastWriter (txn_at (split_history history)) key (map half_of front) (commit_half writer)
    met (older, newer, e, writes, none) =
        let e2 : front ≡ (older ++ Commit writer ∷ []) ++ newer = e ∙ sym (append_one older (Commit writer) newer) in
        let whole : events ≡ ((older ++ Commit writer ∷ []) ++ newer) ++ Begin id ∷ back = split ∙ ap (λ es. es ++ Begin id ∷ back) e2 in (
          map half_of older,
          map half_of newer,
          ap (map half_of) e ∙ map-append half_of older (Commit writer ∷ newer),
          commit_writes history writer key ∙ writes,
          none_writes history key newer low none (λ x at other_writes is. no_fence_since history events (older ++ Commit writer ∷ []) newer back id x are apart whole (subst (λ k. NoneCommits history k newer) is none) (fence is) other_writes at),
        )
      where
        append_one : (xs : List Event) (y : Event) (ys : List Event) → (xs ++ y ∷ []) ++ ys ≡ xs ++ y ∷ ys
        append_one [] y ys = refl
        append_one (x ∷ xs) y ys = ap (λ es. x ∷ es) (append_one xs y ys)

-- what the transaction that commits here reads from its own begin is met by what stands for the events in front
pub commit_read : (history : History) (events front back : List Event) (id : TxnId) (key : ℕ) → AreEvents history events → AreApart history events → WritesLow history → events ≡ front ++ Commit id ∷ back → Writes (txn_at history) id key → IsLastWriter (txn_at (split_history history)) (star key) (map half_of front) (begin_half id)
commit_read history events front back id key are apart low split writes = by_events (writer_events history events id key are writes)
  where
    commits : slice_get events (length front + 0) ≡ Some (Commit id)
    commits = subst (λ es. slice_get es (length front + 0) ≡ Some (Commit id)) (sym split) (place_right front (Commit id ∷ back) 0 (Commit id) refl)

    whole_place : (k : ℕ) (event : Event) → slice_get front k ≡ Some event → slice_get events k ≡ Some event
    whole_place k event at = subst (λ es. slice_get es k ≡ Some event) (sym split) (place_left front (Commit id ∷ back) k event at)

    in_front : (i : ℕ) (event : Event) → i < length front → slice_get events i ≡ Some event → slice_get front i ≡ Some event
    in_front i event within at = by_place (place_in front (Commit id ∷ back) i event (subst (λ es. slice_get es i ≡ Some event) split at))
      where
        by_place : (slice_get front i ≡ Some event) ⊎ ((k : ℕ) × (i ≡ length front + k) × (slice_get (Commit id ∷ back) k ≡ Some event)) → slice_get front i ≡ Some event
        by_place (inl found) = found
        by_place (inr (k, e, found)) = absurd (omega (arith, e, within))

    -- no other writer of a key that it writes begins or commits between
    none_between : (i j : ℕ) → slice_get events i ≡ Some (Begin id) → slice_get events j ≡ Some (Commit id) → j ≡ length front + 0 → (k : ℕ) (x : TxnId) (other_key : ℕ) → Writes (txn_at history) id other_key → Writes (txn_at history) x other_key → i < k → k < j → (slice_get events k ≡ Some (Begin x)) ⊎ (slice_get events k ≡ Some (Commit x)) → ⊥
    none_between i j here there last k x other_key own_writes other_writes after before stands = by_writer (writer_events history events x other_key are other_writes) stands
      where
        by_writer : Precedes events (Begin x) (Commit x) → (slice_get events k ≡ Some (Begin x)) ⊎ (slice_get events k ≡ Some (Commit x)) → ⊥
        by_writer (p, q, below, begins, ends) (inl at) =
            let a = one_place history events (Begin x) p k are begins at in
            let other : x ≢ id = λ same. (let e = one_place history events (Begin id) k i are (subst (λ y. slice_get events k ≡ Some (Begin y)) same at) here in omega (arith, e, after)) in
            by_side a (closed_between history events id x other_key i j are apart own_writes other_writes other here there p q begins ends)
          where
            by_side : p ≡ k → (q < i) ⊎ (j < p) → ⊥
            by_side a (inl ahead) = omega (arith, a, ahead, below, after)
            by_side a (inr behind) = omega (arith, a, behind, before)
        by_writer (p, q, below, begins, ends) (inr at) =
            let a = one_place history events (Commit x) q k are ends at in
            let other : x ≢ id = λ same. (let e = one_place history events (Commit id) k j are (subst (λ y. slice_get events k ≡ Some (Commit y)) same at) there in omega (arith, e, before)) in
            by_side a (closed_between history events id x other_key i j are apart own_writes other_writes other here there p q begins ends)
          where
            by_side : q ≡ k → (q < i) ⊎ (j < p) → ⊥
            by_side a (inl ahead) = omega (arith, a, ahead, after)
            by_side a (inr behind) = omega (arith, a, behind, below, before)

    none_newer : (i : ℕ) (older newer : List Event) → slice_get events i ≡ Some (Begin id) → front ≡ older ++ Begin id ∷ newer → length older ≡ i → NoneWrites (txn_at (split_history history)) (star key) (map half_of newer)
    none_newer i older newer here e size = All-map (λ id. writes_key (txn_at (split_history history) id) (star key) ≡ false) half_of newer (λ k d within. by_event (slice_index_or newer k d) k within (at_of newer k d within))
      where
        place : (k : ℕ) (event : Event) → slice_get newer k ≡ Some event → slice_get events (length older + suc k) ≡ Some event
        place k event at = whole_place (length older + suc k) event (subst (λ es. slice_get es (length older + suc k) ≡ Some event) (sym e) (place_right older (Begin id ∷ newer) (suc k) event at))

        long : length front ≡ length older + suc (length newer)
        long = ap length e ∙ length-append older (Begin id ∷ newer)

        between : (k : ℕ) (x : TxnId) (other_key : ℕ) → k < length newer → Writes (txn_at history) id other_key → Writes (txn_at history) x other_key → (slice_get events (length older + suc k) ≡ Some (Begin x)) ⊎ (slice_get events (length older + suc k) ≡ Some (Commit x)) → ⊥
        between k x other_key within own_writes other_writes stands = none_between i (length front + 0) here commits refl (length older + suc k) x other_key own_writes other_writes (omega (arith, size)) (omega (arith, long, within)) stands

        by_event : (event : Event) (k : ℕ) → k < length newer → slice_get newer k ≡ Some event → writes_key (txn_at (split_history history) (half_of event)) (star key) ≡ false
        by_event (Begin x) k within at = begin_writes history x key ∙ by_test (writes_key (txn_at history x) key) refl
          where
            by_test : (t : Bool) → writes_key (txn_at history x) key ≡ t → writes_key (txn_at history x) key ≡ false
            by_test true test = absurd (between k x key within writes test (inl (place k (Begin x) at)))
            by_test false test = test
        by_event (Commit x) k within at = commit_writes history x (star key) ∙ by_test (writes_key (txn_at history x) (star key)) refl
          where
            by_test : (t : Bool) → writes_key (txn_at history x) (star key) ≡ t → writes_key (txn_at history x) (star key) ≡ false
            by_test false test = test
            by_test true test =
                let is : key ≡ 0 = low_star key (low x (star key) test) in
                let same : star key ≡ key = ap star is ∙ sym is in
                absurd (between k x key within writes (subst (λ n. Writes (txn_at history) x n) same test) (inr (place k (Commit x) at)))

    by_events : Precedes events (Begin id) (Commit id) → IsLastWriter (txn_at (split_history history)) (star key) (map half_of front) (begin_half id)
    by_events (i, j, below, here, there) =
        let last = one_place history events (Commit id) j (length front + 0) are there commits in
        by_split i here (split_at front i (Begin id) (in_front i (Begin id) (omega (arith, last, below)) here))
      where
        by_split : (i : ℕ) → slice_get events i ≡ Some (Begin id) → (older newer : List Event) × (front ≡ older ++ Begin id ∷ newer) × (length older ≡ i) → IsLastWriter (txn_at (split_history history)) (star key) (map half_of front) (begin_half id)
        by_split i here (older, newer, e, size) = (map half_of older, map half_of newer, ap (map half_of) e ∙ map-append half_of older (Begin id ∷ newer), begin_writes history id key ∙ writes, none_newer i older newer here e size)
