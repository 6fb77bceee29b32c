-- What keeps a promise kept it before something was added to it: an order of the longer history, without what was added, is one of the shorter.
use Rattle.std.proofs.Common.{◌≡◌, ℕ, ◌+◌, ◌<◌, ◌≤◌, ◌⊎◌, Bool, true, false, cond, List, [], ◌∷◌, ◌++◌, length, filter, Option, Some, None, IsSome, nat_lt, refl, sym, subst, ap, ◌∙◌, arith, inl, inr, append-nil, get_or-set_same, get_or-set_other}
use Rattle.std.specs.Prelude.{slice_get, slice_set}
use Rattle.std.proofs.lemmas.Bool.{cases_lt, cases_eq, lt-ltb, le-ltb, false≢true}
use Rattle.std.proofs.lemmas.List.{set_past}
use Rattle.std.proofs.lemmas.List.Elements.{All-weaker, All-filter, filter-append}
use Rattle.list_lemmas.specs.Precedes.{Precedes}
use Rattle.list_lemmas.proofs.Filters.{filters_swap}
use Rattle.list_lemmas.proofs.Places.{place_left, precedes_filter, some_within}
use Rattle.txn.specs.declared.transactions.TxnId.{TxnId}
use Rattle.txn.specs.declared.transactions.Fragment.{Fragment}
use Rattle.txn.specs.declared.transactions.Source.{Source}
use Rattle.txn.specs.declared.transactions.Source.TheVariants.{Init, By}
use Rattle.txn.specs.declared.transactions.Txn.{Txn}
use Rattle.txn.specs.History.{History, Received, session_of, txn_at, in_session, ids_from, writes_key, NoneWrites, Writes}
use Rattle.order_check.specs.StandsFor.{Arrival, More, Joins, Returns, with_session, history_after}
use Rattle.order_check.specs.Whole.{MeetsWhole, ExplainsWhole}
use Rattle.order_check.proofs.Joined.{session_here, session_old}
use Rattle.isolation_histories.specs.declared.events.Event.{Event}
use Rattle.isolation_histories.specs.declared.events.Event.TheVariants.{Begin, Commit}
use Rattle.isolation_histories.specs.Events.{event_in_session, events_from, txn_of}
use Rattle.isolation_histories.specs.Snapshot.{IsSnapshotOrder, NoneCommits, SeesLastCommit, commits_key}

-- ---- lists

pub filter_around : {X : Type 0} (p : X → Bool) (front back : List X) (x : X) → p x ≡ true → filter p (front ++ x ∷ back) ≡ filter p front ++ x ∷ filter p back
filter_around p front back x pass = filter-append p front (x ∷ back) ∙ ap (λ b. filter p front ++ cond b (x ∷ filter p back) (filter p back)) pass

-- where a filter's list is split, the list is split there
pub split_back : {X : Type 0} (p : X → Bool) (xs front back : List X) (x : X) → filter p xs ≡ front ++ x ∷ back → (before after : List X) × (xs ≡ before ++ x ∷ after) × (front ≡ filter p before)
split_back p [] [] back x is = absurd (cc)
split_back p [] (z ∷ front) back x is = absurd (cc)
split_back {X} p (y ∷ xs) front back x is = by_test (p y) refl front is (λ rest e. split_back p xs rest back x e)
  where
    by_test : (t : Bool) → p y ≡ t → (begin : List X) → cond t (y ∷ filter p xs) (filter p xs) ≡ begin ++ x ∷ back → ((rest : List X) → filter p xs ≡ rest ++ x ∷ back → (before after : List X) × (xs ≡ before ++ x ∷ after) × (rest ≡ filter p before)) → (before after : List X) × (y ∷ xs ≡ before ++ x ∷ after) × (begin ≡ filter p before)
    by_test true pass [] is split = let same : y ≡ x = cc in ([], xs, ap (λ z. z ∷ xs) same, refl)
    by_test true pass (z ∷ begin) is split =
        let same : z ≡ y = cc in
        let (before, after, whole, front_is) = split begin (cc) in
        (y ∷ before, after, ap (λ zs. y ∷ zs) whole, rw pass (λ i. same i ∷ front_is i))
    by_test false pass begin is split =
        let (before, after, whole, front_is) = split begin is in
        (y ∷ before, after, ap (λ zs. y ∷ zs) whole, rw pass front_is)

-- ---- histories that have grown

-- each session has what it had, and maybe more after it
abbrev pub Grows : {X : Type 0} → List (List X) → List (List X) → Type 0
Grows {X} old new = (s : ℕ) → (more : List X) × (session_of new s ≡ session_of old s ++ more)

pub same_grows : {X : Type 0} (old : List (List X)) → Grows old old
same_grows old s = ([], sym (append-nil (session_of old s)))

-- one with more at the end of a session
pub longer_grows : {X : Type 0} (old : List (List X)) (t : ℕ) (txns : List X) → Grows old (slice_set old t (session_of old t ++ txns))
longer_grows {X} old t txns s = by_case (cases_eq s t) (cases_lt t (length old))
  where
    longer : List X
    longer = session_of old t ++ txns

    by_case : (s ≡ t) ⊎ (¬ (s ≡ t)) → (t < length old) ⊎ (length old ≤ t) → (more : List X) × (session_of (slice_set old t longer) s ≡ session_of old s ++ more)
    by_case (inl here) (inl within) = (txns, rw here (get_or-set_same old t longer [] within))
    by_case (inl here) (inr past) = ([], ap (λ h. session_of h s) (set_past old t longer past) ∙ sym (append-nil (session_of old s)))
    by_case (inr apart) within = ([], get_or-set_other old t s longer [] apart ∙ sym (append-nil (session_of old s)))

joined_grows : (history : History) (fragment : Fragment) → Grows history (with_session history fragment)
joined_grows history fragment s = by_case (cases_eq s (length history))
  where
    by_case : (s ≡ length history) ⊎ (¬ (s ≡ length history)) → (more : List Txn) × (session_of (with_session history fragment) s ≡ session_of history s ++ more)
    by_case (inl here) = (fragment.txns, session_here history fragment s here)
    by_case (inr apart) = ([], session_old history fragment s apart ∙ sym (append-nil (session_of history s)))

pub arrival_grows : (history : History) (arrival : Arrival) → Grows history (history_after history arrival)
arrival_grows history (More fragment) = longer_grows history fragment.session fragment.txns
arrival_grows history (Joins fragment) = joined_grows history fragment
arrival_grows history (Returns fragment) = longer_grows history fragment.session fragment.txns

-- what was there is there still
pub still_there : {X : Type 0} (old new : List (List X)) → Grows old new → (id : TxnId) (x : X) → slice_get (session_of old id.session) id.number ≡ Some x → slice_get (session_of new id.session) id.number ≡ Some x
still_there old new grows id x at = let (more, is) = grows id.session in rw is (place_left (session_of old id.session) more id.number x at)

-- whether the history had the id
abbrev pub had : {X : Type 0} → List (List X) → TxnId → Bool
had history id = nat_lt id.number (length (session_of history id.session))

pub had_some : {X : Type 0} (history : List (List X)) (id : TxnId) → IsSome (slice_get (session_of history id.session) id.number) → had history id ≡ true
had_some history id some = lt-ltb id.number (length (session_of history id.session)) (some_within (session_of history id.session) id.number some)

-- what was received is as it was
same_at : (old new : History) → Grows old new → (id : TxnId) → Received old id → txn_at new id ≡ txn_at old id
same_at old new grows id = by_case (txn_at old id) refl
  where
    by_case : (o : Option Txn) → txn_at old id ≡ o → IsSome o → txn_at new id ≡ txn_at old id
    by_case None is some = absurd (false≢true some)
    by_case (Some txn) is some = still_there old new grows id txn is ∙ sym is

-- who writes was received
writes_received : (history : History) (id : TxnId) (key : ℕ) → Writes (txn_at history) id key → Received history id
writes_received history id key = by_case (txn_at history id)
  where
    by_case : (o : Option Txn) → writes_key o key ≡ true → IsSome o
    by_case None writes = absurd (false≢true writes)
    by_case (Some txn) writes = refl

-- what doesn't write in the grown history didn't before
none_before : (old new : History) → Grows old new → (key : ℕ) (id : TxnId) → writes_key (txn_at new id) key ≡ false → writes_key (txn_at old id) key ≡ false
none_before old new grows key id none = by_case (txn_at old id) refl
  where
    by_case : (o : Option Txn) → txn_at old id ≡ o → writes_key o key ≡ false
    by_case None is = refl
    by_case (Some txn) is = subst (λ o. writes_key o key ≡ false) (still_there old new grows id txn is) none

-- ---- orders

none_had : (test : TxnId → Bool) (s n k : ℕ) → ((m : ℕ) → test (record { session = s; number = m }) ≡ nat_lt m n) → n ≤ k → (txns : List Txn) → filter test (ids_from s k txns) ≡ []
none_had test s n k is past [] = refl
none_had test s n k is past (txn ∷ txns) = rw (is k ∙ le-ltb k n past) (none_had test s n (k + 1) is (omega arith) txns)

kept_ids : (test : TxnId → Bool) (s n k : ℕ) → ((m : ℕ) → test (record { session = s; number = m }) ≡ nat_lt m n) → (txns more : List Txn) → k + length txns ≡ n → filter test (ids_from s k (txns ++ more)) ≡ ids_from s k txns
kept_ids test s n k is [] more sum = none_had test s n k is (omega arith) more
kept_ids test s n k is (txn ∷ txns) more sum =
    let rest = kept_ids test s n (k + 1) is txns more (omega arith) in
    rw (is k ∙ lt-ltb k n (omega arith)) (ap (λ ids. record { session = s; number = k } ∷ ids) rest)

module _ (old new : History) (grows : Grows old new) where
  none_of_front : (key : ℕ) (ids : List TxnId) → NoneWrites (txn_at new) key ids → NoneWrites (txn_at old) key (filter (had old) ids)
  none_of_front key ids none = All-filter (had old) (λ id. writes_key (txn_at old id) key ≡ false) ids (All-weaker (λ id. writes_key (txn_at new id) key ≡ false) (λ id. writes_key (txn_at old id) key ≡ false) (none_before old new grows key) ids none)

  meets_before : (front : List TxnId) (key : ℕ) (source : Source) → MeetsWhole new front key source → MeetsWhole old (filter (had old) front) key source
  meets_before front key Init meets = none_of_front key front meets
  meets_before front key (By writer) meets = λ received.
      let same = same_at old new grows writer received in
      let (older, newer, is, written, none) = meets (subst IsSome (sym same) received) in
      (filter (had old) older, filter (had old) newer, ap (filter (had old)) is ∙ filter_around (had old) older newer writer (had_some old writer received), subst (λ o. writes_key o key ≡ true) same written, none_of_front key newer none)

  pub explains_before : (order : List TxnId) → ExplainsWhole new order → ExplainsWhole old (filter (had old) order)
  explains_before order explains = record {
    sessions = λ s. let (more, is) = grows s in
        filters_swap (in_session s) (had old) order ∙ ap (filter (had old)) (explains.sessions s ∙ ap (ids_from s 0) is) ∙ kept_ids (had old) s (length (session_of old s)) 0 (λ m. refl) (session_of old s) more (omega arith);
    reads = λ front back id is txn at.
        let (before, after, whole, front_is) = split_back (had old) order front back id is in
        let met = explains.reads before after id whole txn (still_there old new grows id txn at) in
        rw front_is (All-weaker (λ read. MeetsWhole new before read.0 read.1) (λ read. MeetsWhole old (filter (had old) before) read.0 read.1) (λ read. meets_before before read.0 read.1) txn.reads met);
  }

-- ---- begins and commits

abbrev pub had_event : History → Event → Bool
had_event history event = had history (txn_of event)

no_events : (test : Event → Bool) (s n k : ℕ) → ((m : ℕ) → test (Begin (record { session = s; number = m })) ≡ nat_lt m n) → ((m : ℕ) → test (Commit (record { session = s; number = m })) ≡ nat_lt m n) → n ≤ k → (txns : List Txn) → filter test (events_from s k txns) ≡ []
no_events test s n k begins commits past [] = refl
no_events test s n k begins commits past (txn ∷ txns) = rw (begins k ∙ le-ltb k n past, commits k ∙ le-ltb k n past) (no_events test s n (k + 1) begins commits (omega arith) txns)

kept_events : (test : Event → Bool) (s n k : ℕ) → ((m : ℕ) → test (Begin (record { session = s; number = m })) ≡ nat_lt m n) → ((m : ℕ) → test (Commit (record { session = s; number = m })) ≡ nat_lt m n) → (txns more : List Txn) → k + length txns ≡ n → filter test (events_from s k (txns ++ more)) ≡ events_from s k txns
kept_events test s n k begins commits [] more sum = no_events test s n k begins commits (omega arith) more
kept_events test s n k begins commits (txn ∷ txns) more sum =
    let rest = kept_events test s n (k + 1) begins commits txns more (omega arith) in
    rw (begins k ∙ lt-ltb k n (omega arith), commits k ∙ lt-ltb k n (omega arith)) (ap (λ events. Begin (record { session = s; number = k }) ∷ Commit (record { session = s; number = k }) ∷ events) rest)

module _ (old new : History) (grows : Grows old new) where
  no_commit : (key : ℕ) (event : Event) → commits_key new key event ≡ false → commits_key old key event ≡ false
  no_commit key (Begin id) none = refl
  no_commit key (Commit id) none = none_before old new grows key id none

  none_commits : (key : ℕ) (events : List Event) → NoneCommits new key events → NoneCommits old key (filter (had_event old) events)
  none_commits key events none = All-filter (had_event old) (λ event. commits_key old key event ≡ false) events (All-weaker (λ event. commits_key new key event ≡ false) (λ event. commits_key old key event ≡ false) (no_commit key) events none)

  sees_before : (front : List Event) (key : ℕ) (source : Source) → SeesLastCommit new front key source → SeesLastCommit old (filter (had_event old) front) key source
  sees_before front key Init sees = none_commits key front sees
  sees_before front key (By writer) sees = λ received.
      let same = same_at old new grows writer received in
      let (older, newer, is, written, none) = sees (subst IsSome (sym same) received) in (
        filter (had_event old) older,
        filter (had_event old) newer,
        ap (filter (had_event old)) is ∙ filter_around (had_event old) older newer (Commit writer) (had_some old writer received),
        subst (λ o. writes_key o key ≡ true) same written,
        none_commits key newer none,
      )

  pub isolates_before : (events : List Event) → IsSnapshotOrder new events → IsSnapshotOrder old (filter (had_event old) events)
  isolates_before events keeps = record {
    sessions = λ s. let (more, is) = grows s in
        filters_swap (event_in_session s) (had_event old) events ∙ ap (filter (had_event old)) (keeps.sessions s ∙ ap (events_from s 0) is)
        ∙ kept_events (had_event old) s (length (session_of old s)) 0 (λ m. refl) (λ m. refl) (session_of old s) more (omega arith);
    reads = λ front back id is txn at.
        let (before, after, whole, front_is) = split_back (had_event old) events front back (Begin id) is in
        let sees = keeps.reads before after id whole txn (still_there old new grows id txn at) in
        rw front_is (All-weaker (λ read. SeesLastCommit new before read.0 read.1) (λ read. SeesLastCommit old (filter (had_event old) before) read.0 read.1) (λ read. sees_before before read.0 read.1) txn.reads sees);
    apart = λ a b key differ first second.
        let one = writes_received old a key first in
        let other = writes_received old b key second in
        let here = subst (λ o. writes_key o key ≡ true) (sym (same_at old new grows a one)) first in
        let there = subst (λ o. writes_key o key ≡ true) (sym (same_at old new grows b other)) second in
        elim (keeps.apart a b key differ here there) as (λ _. Precedes (filter (had_event old) events) (Commit a) (Begin b) ⊎ Precedes (filter (had_event old) events) (Commit b) (Begin a)) [
          | inl before ↦ inl (precedes_filter (had_event old) events (Commit a) (Begin b) (had_some old a one) (had_some old b other) before)
          | inr before ↦ inr (precedes_filter (had_event old) events (Commit b) (Begin a) (had_some old b other) (had_some old a one) before)
        ];
  }
