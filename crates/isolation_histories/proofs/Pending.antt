-- A read is pending in a history exactly where one is in its split history; and so the verdicts agree.
use Rattle.std.proofs.Common.{◌≡◌, ℕ, zero, suc, ◌<◌, ◌↔◌, List, [], ◌∷◌, Some, None, Option, refl, sym, ap, subst, ◌∙◌, arith}
use Rattle.std.specs.Prelude.{map, option_map, Contains, IsSomeAnd}
use Rattle.std.proofs.lemmas.List.{length-map, get_or-map}
use Rattle.txn.specs.declared.transactions.TxnId.{TxnId}
use Rattle.txn.specs.declared.transactions.Source.{Source}
use Rattle.txn.specs.declared.transactions.Source.TheVariants.{Init, By}
use Rattle.txn.specs.declared.transactions.Txn.{Txn}
use Rattle.txn.specs.History.{History, Received, txn_at, Reads}
use Rattle.order_check.specs.declared.remainder.Kind.{Kind}
use Rattle.order_check.specs.declared.remainder.Kind.TheVariants.{Serial, Pending, Violated, Spent}
use Rattle.order_check.specs.Whole.{HasPendingWhole, IsVerdictWhole}
use Rattle.isolation_histories.specs.declared.events.Event.{Event}
use Rattle.isolation_histories.specs.declared.events.Event.TheVariants.{Begin, Commit}
use Rattle.isolation_histories.specs.Halves.{begin_half, commit_half, half_of, event_at}
use Rattle.isolation_histories.specs.Snapshot.{IsSnapshotVerdict}
use Rattle.isolation_histories.specs.Split.{begin_read_of, commit_read_of, begin_txn, commit_txn, split_history, HistoryCanBeSplit}
use Rattle.isolation_histories.proofs.EventHalves.{half_of_event}
use Rattle.isolation_histories.proofs.FromOrder.{commit_received, begin_received}
use Rattle.isolation_histories.proofs.Isolation.{kept_as_explained}
use Rattle.isolation_histories.proofs.Lookups.{at_begin, at_commit}
use Rattle.isolation_histories.proofs.ToOrder.{received_commit}

-- what a list contains, a list made of it contains what is made of that
mapped_contains : {X Y : Type 0} (f : X → Y) (xs : List X) (x : X) → Contains xs x → Contains (map f xs) (f x)
mapped_contains f xs x (k, within, is) = (k, subst (λ n. k < n) (sym (length-map xs f)) within, get_or-map f xs k x (f x) within ∙ ap f is)

-- and the other way round
of_mapped : {X Y : Type 0} (f : X → Y) (xs : List X) (y : Y) → Contains (map f xs) y → (x : X) × Contains xs x × (f x ≡ y)
of_mapped f [] y (k, within, is) = absurd (omega (arith, within))
of_mapped f (x ∷ xs) y (zero, within, is) = (x, (0, omega arith, refl), is)
of_mapped {X} {Y} f (x ∷ xs) y (suc k, within, is) = more (of_mapped f xs y (k, omega (arith, within), is))
  where
    more : (z : X) × Contains xs z × (f z ≡ y) → (z : X) × Contains (x ∷ xs) z × (f z ≡ y)
    more (z, (k, within, is), e) = (z, (suc k, omega (arith, within), is), e)

pending_to_split : (history : History) → HasPendingWhole history → HasPendingWhole (split_history history)
pending_to_split history (reader, writer, key, reads, missing) = (begin_half reader, commit_half writer, key, by_found (txn_at history reader) refl reads, λ received. missing (received_commit history writer received))
  where
    by_found : (found : Option Txn) → txn_at history reader ≡ found → IsSomeAnd found (λ txn. Contains txn.reads (key, By writer)) → Reads (txn_at (split_history history)) (begin_half reader) key (By (commit_half writer))
    by_found None e has = absurd has
    by_found (Some txn) e has = subst (λ o. IsSomeAnd o (λ t. Contains t.reads (key, By (commit_half writer)))) (sym (at_begin history reader ∙ ap (option_map begin_txn) e)) (mapped_contains begin_read_of txn.reads (key, By writer) has)

-- what is not received of a split history stands for the commit of what is not received
by_source : (history : History) (reader writer : TxnId) (txn : Txn) (key : ℕ) (read : ℕ × Source) → txn_at history reader ≡ Some txn → Contains txn.reads read → begin_read_of read ≡ (key, By writer) → (¬ Received (split_history history) writer) → HasPendingWhole history
by_source history reader writer txn key (k, Init) at has is missing = absurd (let e : Init ≡ By writer = ap (λ (r : ℕ × Source). r.1) is in cc)
by_source history reader writer txn key (k, By other) at has is missing =
    let e : By (commit_half other) ≡ By writer = ap (λ (r : ℕ × Source). r.1) is in
    let same : commit_half other ≡ writer = cc in
    (reader, other, k, subst (λ o. IsSomeAnd o (λ t. Contains t.reads (k, By other))) (sym at) has, λ received. missing (subst (Received (split_history history)) same (commit_received history other received)))

pending_of_split : (history : History) → HasPendingWhole (split_history history) → HasPendingWhole history
pending_of_split history (half, writer, key, reads, missing) = by_event (event_at half) (subst (λ i. Reads (txn_at (split_history history)) i key (By writer)) (sym (half_of_event half)) reads)
  where
    by_begin : (id : TxnId) (found : Option Txn) → txn_at history id ≡ found → IsSomeAnd (option_map begin_txn found) (λ txn. Contains txn.reads (key, By writer)) → HasPendingWhole history
    by_begin id None e has = absurd has
    by_begin id (Some txn) e has = by_read (of_mapped begin_read_of txn.reads (key, By writer) has)
      where
        by_read : (read : ℕ × Source) × Contains txn.reads read × (begin_read_of read ≡ (key, By writer)) → HasPendingWhole history
        by_read (read, contained, is) = by_source history id writer txn key read e contained is missing

    by_commit : (id : TxnId) (found : Option Txn) → txn_at history id ≡ found → IsSomeAnd (option_map (commit_txn id) found) (λ txn. Contains txn.reads (key, By writer)) → HasPendingWhole history
    by_commit id None e has = absurd has
    by_commit id (Some txn) e has = by_read (of_mapped (commit_read_of id) txn.writes (key, By writer) has)
      where
        by_read : (k : ℕ) × Contains txn.writes k × (commit_read_of id k ≡ (key, By writer)) → HasPendingWhole history
        by_read (k, contained, is) =
            let e2 : By (begin_half id) ≡ By writer = ap (λ (r : ℕ × Source). r.1) is in
            let same : begin_half id ≡ writer = cc in
            absurd (missing (subst (Received (split_history history)) same (begin_received history id txn e)))

    by_event : (event : Event) → Reads (txn_at (split_history history)) (half_of event) key (By writer) → HasPendingWhole history
    by_event (Begin id) h = by_begin id (txn_at history id) refl (subst (λ o. IsSomeAnd o (λ txn. Contains txn.reads (key, By writer))) (at_begin history id) h)
    by_event (Commit id) h = by_commit id (txn_at history id) refl (subst (λ o. IsSomeAnd o (λ txn. Contains txn.reads (key, By writer))) (at_commit history id) h)

pub pending_as_split : (history : History) → HasPendingWhole history ↔ HasPendingWhole (split_history history)
pending_as_split history = (pending_to_split history, pending_of_split history)

pub verdict_as_split : (history : History) (kind : Kind) → HistoryCanBeSplit history → IsSnapshotVerdict history kind ↔ IsVerdictWhole (split_history history) kind
verdict_as_split history Violated can = let kept = kept_as_explained history can in (λ none order. none (kept.1 order), λ none events. none (kept.0 events))
verdict_as_split history Pending can = let kept = kept_as_explained history can in let waits = pending_as_split history in (λ (some, waiting). (kept.0 some, waits.0 waiting), λ (some, waiting). (kept.1 some, waits.1 waiting))
verdict_as_split history Serial can = let kept = kept_as_explained history can in let waits = pending_as_split history in (λ (some, none). (kept.0 some, λ waiting. none (waits.1 waiting)), λ (some, none). (kept.1 some, λ waiting. none (waits.0 waiting)))
verdict_as_split history Spent can = (λ h. h, λ h. h)
