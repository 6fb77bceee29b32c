-- Where begins and commits come in events that are those of the sessions.
use Rattle.std.proofs.Common.{◌≡◌, ℕ, ◌+◌, ◌*◌, ◌<◌, ◌≤◌, ◌⊎◌, true, List, [], ◌∷◌, length, Some, refl, sym, ap, subst, ◌∙◌, inl, inr, arith, suc, zero, add-zero}
use Rattle.std.specs.List.{slice_get, filter}
use Rattle.std.proofs.lemmas.Bool.{eq-eqb, cases_lt}
use Rattle.std.proofs.lemmas.Option.{slice_get_within}
use Rattle.list_lemmas.proofs.Places.{later_place, precedes_filtered, precedes_filter}
use Rattle.list_lemmas.specs.Precedes.{Precedes}
use Rattle.txn.specs.declared.transactions.TxnId.{TxnId}
use Rattle.txn.specs.declared.transactions.Txn.{Txn}
use Rattle.txn.specs.History.{History, session_of, txn_at}
use Rattle.isolation_histories.specs.declared.events.Event.{Event}
use Rattle.isolation_histories.specs.declared.events.Event.TheVariants.{Begin, Commit}
use Rattle.isolation_histories.specs.Events.{txn_of, event_in_session, events_from}
use Rattle.isolation_histories.specs.Halves.{half_of}

-- session by session the events are those of the history
abbrev pub AreEvents : History → List Event → Type 0
AreEvents history events = (s : ℕ) → filter (event_in_session s) events ≡ events_from s 0 (session_of history s)

-- what comes at a place of a session's events
place_of : (s number : ℕ) (txns : List Txn) (k : ℕ) (event : Event) → slice_get (events_from s number txns) k ≡ Some event → (half_of event).number ≡ 2 * number + k
place_of s number [] k event h = absurd cc
place_of s number (txn ∷ txns) zero event h = let e : Begin (record { session = s; number = number }) ≡ event = cc in ap (λ x. (half_of x).number) (sym e) ∙ omega arith
place_of s number (txn ∷ txns) (suc zero) event h = let e : Commit (record { session = s; number = number }) ≡ event = cc in ap (λ x. (half_of x).number) (sym e) ∙ omega arith
place_of s number (txn ∷ txns) (suc (suc k)) event h = let rest = place_of s (number + 1) txns k event h in omega (arith, rest)

-- a session's transaction begins before it commits
begins_first : (s number : ℕ) (txns : List Txn) (k : ℕ) → k < length txns → Precedes (events_from s number txns) (Begin (record { session = s; number = number + k })) (Commit (record { session = s; number = number + k }))
begins_first s number [] k within = absurd (omega arith)
begins_first s number (txn ∷ txns) zero within = rw add-zero (0, 1, omega arith, refl, refl)
begins_first s number (txn ∷ txns) (suc k) within =
    let moved : number + 1 + k ≡ number + suc k = omega arith in
    let P : ℕ → Type 0 = λ n. Precedes (events_from s number (txn ∷ txns)) (Begin (record { session = s; number = n })) (Commit (record { session = s; number = n })) in
    let at : TxnId = record { session = s; number = number + 1 + k } in
    let first : TxnId = record { session = s; number = number } in
    let rest = events_from s (number + 1) txns in
    subst P moved (later_place (Begin first) (Commit first ∷ rest) (Begin at) (Commit at) (later_place (Commit first) rest (Begin at) (Commit at) (begins_first s (number + 1) txns k (omega arith))))

-- an event is among those of its session
own : (event : Event) → event_in_session (txn_of event).session event ≡ true
own event = eq-eqb (txn_of event).session (txn_of event).session refl

never_twice : (history : History) (events : List Event) (event : Event) → AreEvents history events → Precedes events event event → ⊥
never_twice history events event are twice = apart (subst (λ xs. Precedes xs event event) (are s) (precedes_filter (event_in_session s) events event event (own event) (own event) twice))
  where
    s : ℕ
    s = (txn_of event).session

    apart : Precedes (events_from s 0 (session_of history s)) event event → ⊥
    apart (i, j, below, here, there) =
        let first = place_of s 0 (session_of history s) i event here in
        let second = place_of s 0 (session_of history s) j event there in
        omega (arith, first, second)

-- an event comes at one place
pub one_place : (history : History) (events : List Event) (event : Event) (i j : ℕ) → AreEvents history events → slice_get events i ≡ Some event → slice_get events j ≡ Some event → i ≡ j
one_place history events event i j are here there = by_less (cases_lt i j) (cases_lt j i)
  where
    by_less : (i < j) ⊎ (j ≤ i) → (j < i) ⊎ (i ≤ j) → i ≡ j
    by_less (inl below) _ = absurd (never_twice history events event are (i, j, below, here, there))
    by_less (inr _) (inl below) = absurd (never_twice history events event are (j, i, below, there, here))
    by_less (inr a) (inr b) = omega arith

-- a received transaction begins, and commits after that
pub begin_then_commit : (history : History) (events : List Event) (id : TxnId) (txn : Txn) → AreEvents history events → txn_at history id ≡ Some txn → Precedes events (Begin id) (Commit id)
begin_then_commit history events id txn are at =
    let s = id.session in
    let within : id.number < length (session_of history s) = slice_get_within (session_of history s) id.number txn at in
    let n : 0 + id.number ≡ id.number = omega arith in
    let P : ℕ → Type 0 = λ n. Precedes (events_from s 0 (session_of history s)) (Begin (record { session = s; number = n })) (Commit (record { session = s; number = n })) in
    precedes_filtered (event_in_session s) events (Begin id) (Commit id) (subst (λ xs. Precedes xs (Begin id) (Commit id)) (sym (are s)) (subst P n (begins_first s 0 (session_of history s) id.number within)))
