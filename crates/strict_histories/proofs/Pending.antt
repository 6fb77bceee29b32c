-- A read is pending in a rewritten history exactly where one is in the history, so the verdicts are the same.
use Rattle.std.proofs.Common.{◌≡◌, ℕ, ◌+◌, ◌⊎◌, true, Some, None, Option, refl, sym, ap, subst, ◌∙◌, inl, inr, arith}
use Rattle.std.specs.Prelude.{All, Contains, IsSomeAnd, option_map}
use Rattle.std.proofs.lemmas.List.Elements.{All-contains, Contains-append_left, Contains-append_cases}
use Rattle.txn.specs.declared.transactions.TxnId.{TxnId}
use Rattle.txn.specs.declared.transactions.Source.{Source}
use Rattle.txn.specs.declared.transactions.Source.TheVariants.{By}
use Rattle.txn.specs.History.{Received, Reads, txn_at}
use Rattle.order_check.specs.declared.remainder.Kind.TheVariants.{Serial, Pending, Violated, Spent}
use Rattle.order_check.specs.Whole.{HasOrderWhole, HasPendingWhole}
use Rattle.strict_histories.specs.declared.timed.TimedTxn.{TimedTxn}
use Rattle.strict_histories.specs.Laws.{RewritingKeepsPending, RewritingKeepsVerdict}
use Rattle.strict_histories.specs.Rewriting.{HasRoomForTimes, end_reads, ended_before, latest_begin, strict_history, strict_txn}
use Rattle.strict_histories.specs.Strict.{HasStrictOrder, TimedHistory, timed_at, untimed}
use Rattle.strict_histories.proofs.EndReads.{ends_have, read_of}
use Rattle.strict_histories.proofs.Lookups.{strict_at, untimed_at}
use Rattle.strict_histories.proofs.Orders.{explains_rewritten, found_received, last_at, strict_order, strict_received, untimed_received}

-- a source that is received
abbrev pub IsHere : TimedHistory → ℕ × Source → Type 0
IsHere timed read = (writer : TxnId) → read.1 ≡ By writer → Received (strict_history timed) writer

-- each end that is read is one of the history
ends_here : (timed : TimedHistory) (t : TimedTxn) → All (IsHere timed) (end_reads t.span timed)
ends_here timed t = ends_have (IsHere timed) (latest_begin t.span timed) t.span 0 timed (λ s n e. by_source s n (last_at timed t.span s n e))
  where
    by_source : (s n : ℕ) → (u : TimedTxn) × (timed_at timed (record { session = s; number = n }) ≡ Some u) × (ended_before u.span t.span ≡ true) → IsHere timed (read_of (0 + s) n)
    by_source s n (u, there, test) = λ writer is.
        let zero_first : 0 + s ≡ s = omega arith in
        let same : record { session = 0 + s; number = n } ≡ writer = cc in
        subst (Received (strict_history timed)) (ap (λ (j : ℕ). record { session = j; number = n }) (sym zero_first) ∙ same) (found_received timed (record { session = s; number = n }) u there)

more_reads : (timed : TimedHistory) (reader writer : TxnId) (key : ℕ) → Reads (txn_at (untimed timed)) reader key (By writer) → Reads (txn_at (strict_history timed)) reader key (By writer)
more_reads timed reader writer key reads = subst (λ o. IsSomeAnd o (λ txn. Contains txn.reads (key, By writer))) (sym (strict_at timed reader)) (by_found (timed_at timed reader) (subst (λ o. IsSomeAnd o (λ txn. Contains txn.reads (key, By writer))) (untimed_at timed reader) reads))
  where
    by_found : (found : Option TimedTxn) → IsSomeAnd (option_map (λ (t : TimedTxn). t.txn) found) (λ txn. Contains txn.reads (key, By writer)) → IsSomeAnd (option_map (strict_txn timed reader) found) (λ txn. Contains txn.reads (key, By writer))
    by_found None has = absurd has
    by_found (Some t) has = Contains-append_left t.txn.reads (end_reads t.span timed) (key, By writer) has

fewer_reads : (timed : TimedHistory) (reader writer : TxnId) (key : ℕ) → (¬ Received (strict_history timed) writer) → Reads (txn_at (strict_history timed)) reader key (By writer) → Reads (txn_at (untimed timed)) reader key (By writer)
fewer_reads timed reader writer key missing reads = subst (λ o. IsSomeAnd o (λ txn. Contains txn.reads (key, By writer))) (sym (untimed_at timed reader)) (by_found (timed_at timed reader) (subst (λ o. IsSomeAnd o (λ txn. Contains txn.reads (key, By writer))) (strict_at timed reader) reads))
  where
    by_found : (found : Option TimedTxn) → IsSomeAnd (option_map (strict_txn timed reader) found) (λ txn. Contains txn.reads (key, By writer)) → IsSomeAnd (option_map (λ (t : TimedTxn). t.txn) found) (λ txn. Contains txn.reads (key, By writer))
    by_found None has = absurd has
    by_found (Some t) has = by_part (Contains-append_cases t.txn.reads (end_reads t.span timed) (key, By writer) has)
      where
        by_part : Contains t.txn.reads (key, By writer) ⊎ Contains (end_reads t.span timed) (key, By writer) → Contains t.txn.reads (key, By writer)
        by_part (inl own) = own
        by_part (inr end) = absurd (missing (All-contains (IsHere timed) (end_reads t.span timed) (key, By writer) (ends_here timed t) end writer refl))

pub pending_there : (timed : TimedHistory) → HasPendingWhole (untimed timed) → HasPendingWhole (strict_history timed)
pending_there timed (reader, writer, key, reads, missing) = (reader, writer, key, more_reads timed reader writer key reads, λ received. missing (untimed_received timed writer received))

pub pending_back : (timed : TimedHistory) → HasPendingWhole (strict_history timed) → HasPendingWhole (untimed timed)
pending_back timed (reader, writer, key, reads, missing) = (reader, writer, key, fewer_reads timed reader writer key missing reads, λ received. missing (strict_received timed writer received))

pub pending_kept : RewritingKeepsPending
pending_kept timed = (pending_there timed, pending_back timed)

order_there : (timed : TimedHistory) → HasRoomForTimes timed → HasStrictOrder timed → HasOrderWhole (strict_history timed)
order_there timed room (order, h) = (order, explains_rewritten timed order room h)

order_back : (timed : TimedHistory) → HasRoomForTimes timed → HasOrderWhole (strict_history timed) → HasStrictOrder timed
order_back timed room (order, h) = (order, strict_order timed order room h)

pub verdict_kept : RewritingKeepsVerdict
verdict_kept timed Violated room = (λ none order. none (order_back timed room order), λ none order. none (order_there timed room order))
verdict_kept timed Pending room = (λ h. (order_there timed room h.0, pending_there timed h.1), λ h. (order_back timed room h.0, pending_back timed h.1))
verdict_kept timed Serial room = (λ h. (order_there timed room h.0, λ pending. h.1 (pending_back timed pending)), λ h. (order_back timed room h.0, λ pending. h.1 (pending_there timed pending)))
verdict_kept timed Spent room = (λ h. h, λ h. h)
