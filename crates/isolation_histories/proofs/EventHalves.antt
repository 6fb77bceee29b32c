-- Events, and the ids that stand for them in the split history.
use Rattle.std.proofs.Common.{◌≡◌, ℕ, ◌+◌, ◌*◌, ◌/◌, ◌%◌, ◌⊎◌, Bool, true, false, cond, List, [], ◌∷◌, ◌++◌, refl, sym, ap, ◌∙◌, inl, inr, arith}
use Rattle.std.specs.Prelude.{map, filter, nat_eq}
use Rattle.std.proofs.lemmas.Bool.Decides.{eqb_tells}
use Rattle.std.proofs.lemmas.List.{map-append}
use Rattle.txn.specs.declared.transactions.TxnId.{TxnId}
use Rattle.txn.specs.declared.transactions.Txn.{Txn}
use Rattle.txn.specs.History.{in_session, ids_from}
use Rattle.isolation_histories.specs.declared.events.Event.{Event}
use Rattle.isolation_histories.specs.declared.events.Event.TheVariants.{Begin, Commit}
use Rattle.isolation_histories.specs.Events.{event_in_session, events_from}
use Rattle.isolation_histories.specs.Halves.{begin_half, commit_half, half_of, event_at}
use Rattle.isolation_histories.specs.Split.{split_txns}

even_rest : (n : ℕ) → (2 * n) % 2 ≡ 0
even_rest n = omega arith

even_half : (n : ℕ) → (2 * n) / 2 ≡ n
even_half n = omega arith

odd_rest : (n : ℕ) → (2 * n + 1) % 2 ≡ 1
odd_rest n = omega arith

odd_half : (n : ℕ) → (2 * n + 1) / 2 ≡ n
odd_half n = omega arith

-- an event is found again from what stands for it
pub event_of_half : (event : Event) → event_at (half_of event) ≡ event
event_of_half (Begin id) = rw (even_rest id.number, even_half id.number) refl
event_of_half (Commit id) = rw (odd_rest id.number, odd_half id.number) refl

-- and the other way round
pub half_of_event : (id : TxnId) → half_of (event_at id) ≡ id
half_of_event id = by_rest (eqb_tells (id.number % 2) 0)
  where
    by_rest : ((nat_eq (id.number % 2) 0 ≡ true) × (id.number % 2 ≡ 0)) ⊎ ((nat_eq (id.number % 2) 0 ≡ false) × (id.number % 2 ≡ 0 → ⊥)) → half_of (event_at id) ≡ id
    by_rest (inl (test, even)) = let n : 2 * (id.number / 2) ≡ id.number = omega arith in rw test (ap (λ n. record { session = id.session; number = n }) n)
    by_rest (inr (test, odd)) = let n : 2 * (id.number / 2) + 1 ≡ id.number = omega arith in rw test (ap (λ n. record { session = id.session; number = n }) n)

pub events_of_halves : (events : List Event) → map event_at (map half_of events) ≡ events
events_of_halves [] = refl
events_of_halves (event ∷ events) = ap (λ e. e ∷ map event_at (map half_of events)) (event_of_half event) ∙ ap (λ es. event ∷ es) (events_of_halves events)

pub halves_of_events : (ids : List TxnId) → map half_of (map event_at ids) ≡ ids
halves_of_events [] = refl
halves_of_events (id ∷ ids) = ap (λ i. i ∷ map half_of (map event_at ids)) (half_of_event id) ∙ ap (λ is. id ∷ is) (halves_of_events ids)

filter_step : (t : Bool) (event : Event) (kept : List TxnId) (events : List Event) → kept ≡ map half_of events → cond t (half_of event ∷ kept) kept ≡ map half_of (cond t (event ∷ events) events)
filter_step true event kept events same = ap (λ ids. half_of event ∷ ids) same
filter_step false event kept events same = same

-- events are in the same session as what stands for them
pub filter_halves : (s : ℕ) (events : List Event) → filter (in_session s) (map half_of events) ≡ map half_of (filter (event_in_session s) events)
filter_halves s [] = refl
filter_halves s (Begin id ∷ events) = filter_step (in_session s id) (Begin id) (filter (in_session s) (map half_of events)) (filter (event_in_session s) events) (filter_halves s events)
filter_halves s (Commit id ∷ events) = filter_step (in_session s id) (Commit id) (filter (in_session s) (map half_of events)) (filter (event_in_session s) events) (filter_halves s events)

-- the ids of a split session stand for the events of the session
pub split_ids : (s number : ℕ) (txns : List Txn) → ids_from s (2 * number) (split_txns s number txns) ≡ map half_of (events_from s number txns)
split_ids s number [] = refl
split_ids s number (txn ∷ txns) =
    let next : 2 * number + 1 + 1 ≡ 2 * (number + 1) = omega arith in
    ap (λ n. begin_half (record { session = s; number = number }) ∷ commit_half (record { session = s; number = number }) ∷ ids_from s n (split_txns s (number + 1) txns)) next
    ∙ ap (λ is. begin_half (record { session = s; number = number }) ∷ commit_half (record { session = s; number = number }) ∷ is) (split_ids s (number + 1) txns)

-- where the halves part, the events part
pub parted : (events : List Event) (front back : List TxnId) (id : TxnId) → map half_of events ≡ front ++ id ∷ back → events ≡ map event_at front ++ event_at id ∷ map event_at back
parted events front back id split = sym (events_of_halves events) ∙ ap (map event_at) split ∙ map-append event_at front (id ∷ back)
