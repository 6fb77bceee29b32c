-- An order of a history that has grown, and the order of what the history had before.
use Rattle.std.proofs.Common.{◌≡◌, ℕ, ◌+◌, ◌<◌, ◌≤◌, Bool, true, false, cond, List, [], ◌∷◌, ◌++◌, length, filter, Option, Some, None, IsSome, nat_lt, refl, sym, subst, ap, ◌∙◌, arith, inl, inr, append-nil, get_or-set_same, get_or-set_other, ◌⊎◌}
use Rattle.std.proofs.lemmas.Bool.{cases_lt, cases_eq, lt-ltb, le-ltb, false≢true}
use Rattle.std.proofs.lemmas.List.{set_past}
use Rattle.std.proofs.lemmas.List.Elements.{All-weaker, All-filter, filter-append}
use Rattle.list_lemmas.proofs.Places.{place_left, some_within}
use Rattle.list_lemmas.proofs.Filters.{filters_swap}
use Rattle.txn.specs.declared.transactions.TxnId.{TxnId}
use Rattle.txn.specs.declared.transactions.Source.{Source}
use Rattle.txn.specs.declared.transactions.Source.TheVariants.{Init, By}
use Rattle.txn.specs.declared.transactions.Txn.{Txn}
use Rattle.txn.specs.declared.transactions.Fragment.{Fragment}
use Rattle.txn.specs.History.{History, Received, session_of, txn_at, in_session, ids_from, writes_key, NoneWrites}
use Rattle.order_check.specs.Whole.{MeetsWhole, ExplainsWhole, HasOrderWhole}
use Rattle.order_check.specs.StandsFor.{Arrival, More, Joins, Returns, with_fragment, with_session, history_after, history_then}
use Rattle.order_check.proofs.Joined.{session_here, session_old}

-- each session has what it had, and maybe more behind it
abbrev Grows : History → History → Type 0
Grows old new = (s : ℕ) → (more : List Txn) × (session_of new s ≡ session_of old s ++ more)

-- whether the history had the id
abbrev had : History → TxnId → Bool
had history id = nat_lt id.number (length (session_of history id.session))

still_at : (old new : History) → Grows old new → (id : TxnId) (txn : Txn) → txn_at old id ≡ Some txn → txn_at new id ≡ Some txn
still_at old new grows id txn at = let (more, is) = grows id.session in rw is (place_left (session_of old id.session) more id.number txn at)

-- what the history has, it has as before
same_at : (old new : History) → Grows old new → (id : TxnId) → Received old id → txn_at new id ≡ txn_at old id
same_at old new grows id = by_case (txn_at old id) refl
  where
    by_case : (o : Option Txn) → txn_at old id ≡ o → IsSome o → txn_at new id ≡ txn_at old id
    by_case None is some = absurd (false≢true some)
    by_case (Some txn) is some = still_at old new grows id txn is ∙ sym is

-- what doesn't write in the grown history didn't before
none_before : (old new : History) → Grows old new → (key : ℕ) (id : TxnId) → writes_key (txn_at new id) key ≡ false → writes_key (txn_at old id) key ≡ false
none_before old new grows key id none = by_case (txn_at old id) refl
  where
    by_case : (o : Option Txn) → txn_at old id ≡ o → writes_key o key ≡ false
    by_case None is = refl
    by_case (Some txn) is = subst (λ o. writes_key o key ≡ false) (still_at old new grows id txn is) none

none_of_front : (old new : History) → Grows old new → (key : ℕ) (ids : List TxnId) → NoneWrites (txn_at new) key ids → NoneWrites (txn_at old) key (filter (had old) ids)
none_of_front old new grows key ids none = All-filter (had old) (λ id. writes_key (txn_at old id) key ≡ false) ids (All-weaker (λ id. writes_key (txn_at new id) key ≡ false) (λ id. writes_key (txn_at old id) key ≡ false) (none_before old new grows key) ids none)

had_received : (history : History) (id : TxnId) → Received history id → had history id ≡ true
had_received history id received = lt-ltb id.number (length (session_of history id.session)) (some_within (session_of history id.session) id.number received)

filter_around : {X : Type 0} (p : X → Bool) (front back : List X) (x : X) → p x ≡ true → filter p (front ++ x ∷ back) ≡ filter p front ++ x ∷ filter p back
filter_around p front back x pass = filter-append p front (x ∷ back) ∙ ap (λ b. filter p front ++ cond b (x ∷ filter p back) (filter p back)) pass

meets_before : (old new : History) → Grows old new → (front : List TxnId) (key : ℕ) (source : Source) → MeetsWhole new front key source → MeetsWhole old (filter (had old) front) key source
meets_before old new grows front key Init meets = none_of_front old new grows key front meets
meets_before old new grows front key (By writer) meets = λ received.
    let same = same_at old new grows writer received in
    let (older, newer, is, written, none) = meets (subst IsSome (sym same) received) in
    (filter (had old) older, filter (had old) newer, ap (filter (had old)) is ∙ filter_around (had old) older newer writer (had_received old writer received), subst (λ o. writes_key o key ≡ true) same written, none_of_front old new grows key newer none)

-- where a filter's list is split, the list is split there
split_back : {X : Type 0} (p : X → Bool) (xs front back : List X) (x : X) → filter p xs ≡ front ++ x ∷ back → (before after : List X) × (xs ≡ before ++ x ∷ after) × (front ≡ filter p before)
split_back p [] [] back x is = absurd (cc)
split_back p [] (z ∷ front) back x is = absurd (cc)
split_back {X} p (y ∷ xs) front back x is = by_test (p y) refl front is (λ rest e. split_back p xs rest back x e)
  where
    by_test : (t : Bool) → p y ≡ t → (begin : List X) → cond t (y ∷ filter p xs) (filter p xs) ≡ begin ++ x ∷ back → ((rest : List X) → filter p xs ≡ rest ++ x ∷ back → (before after : List X) × (xs ≡ before ++ x ∷ after) × (rest ≡ filter p before)) → (before after : List X) × (y ∷ xs ≡ before ++ x ∷ after) × (begin ≡ filter p before)
    by_test true pass [] is split = let same : y ≡ x = cc in ([], xs, ap (λ z. z ∷ xs) same, refl)
    by_test true pass (z ∷ begin) is split =
        let same : z ≡ y = cc in
        let (before, after, whole, front_is) = split begin (cc) in
        (y ∷ before, after, ap (λ zs. y ∷ zs) whole, rw pass (λ i. same i ∷ front_is i))
    by_test false pass begin is split =
        let (before, after, whole, front_is) = split begin is in
        (y ∷ before, after, ap (λ zs. y ∷ zs) whole, rw pass front_is)

none_had : (test : TxnId → Bool) (s n k : ℕ) → ((m : ℕ) → test (record { session = s; number = m }) ≡ nat_lt m n) → n ≤ k → (txns : List Txn) → filter test (ids_from s k txns) ≡ []
none_had test s n k is past [] = refl
none_had test s n k is past (txn ∷ txns) = rw (is k ∙ le-ltb k n past) (none_had test s n (k + 1) is (omega arith) txns)

kept_ids : (test : TxnId → Bool) (s n k : ℕ) → ((m : ℕ) → test (record { session = s; number = m }) ≡ nat_lt m n) → (txns more : List Txn) → k + length txns ≡ n → filter test (ids_from s k (txns ++ more)) ≡ ids_from s k txns
kept_ids test s n k is [] more sum = none_had test s n k is (omega arith) more
kept_ids test s n k is (txn ∷ txns) more sum =
    let rest = kept_ids test s n (k + 1) is txns more (omega arith) in
    rw (is k ∙ lt-ltb k n (omega arith)) (ap (λ ids. record { session = s; number = k } ∷ ids) rest)

explains_before : (old new : History) (order : List TxnId) → Grows old new → ExplainsWhole new order → ExplainsWhole old (filter (had old) order)
explains_before old new order grows explains = record {
  sessions = λ s. let (more, is) = grows s in
      filters_swap (in_session s) (had old) order ∙ ap (filter (had old)) (explains.sessions s ∙ ap (ids_from s 0) is) ∙ kept_ids (had old) s (length (session_of old s)) 0 (λ m. refl) (session_of old s) more (omega arith);
  reads = λ front back id is txn at.
      let (before, after, whole, front_is) = split_back (had old) order front back id is in
      let met = explains.reads before after id whole txn (still_at old new grows id txn at) in
      rw front_is (All-weaker (λ read. MeetsWhole new before read.0 read.1) (λ read. MeetsWhole old (filter (had old) before) read.0 read.1) (λ read. meets_before old new grows before read.0 read.1) txn.reads met);
}

fragment_grows : (history : History) (fragment : Fragment) → Grows history (with_fragment history fragment)
fragment_grows history fragment s = by_case (cases_eq s fragment.session) (cases_lt fragment.session (length history))
  where
    longer : List Txn
    longer = session_of history fragment.session ++ fragment.txns

    by_case : (s ≡ fragment.session) ⊎ (¬ (s ≡ fragment.session)) → (fragment.session < length history) ⊎ (length history ≤ fragment.session) → (more : List Txn) × (session_of (with_fragment history fragment) s ≡ session_of history s ++ more)
    by_case (inl here) (inl within) = (fragment.txns, rw here (get_or-set_same history fragment.session longer [] within))
    by_case (inl here) (inr past) = ([], ap (λ h. session_of h s) (set_past history fragment.session longer past) ∙ sym (append-nil (session_of history s)))
    by_case (inr apart) within = ([], get_or-set_other history fragment.session s longer [] apart ∙ sym (append-nil (session_of history s)))

session_grows : (history : History) (fragment : Fragment) → Grows history (with_session history fragment)
session_grows history fragment s = by_case (cases_eq s (length history))
  where
    by_case : (s ≡ length history) ⊎ (¬ (s ≡ length history)) → (more : List Txn) × (session_of (with_session history fragment) s ≡ session_of history s ++ more)
    by_case (inl here) = (fragment.txns, session_here history fragment s here)
    by_case (inr apart) = ([], session_old history fragment s apart ∙ sym (append-nil (session_of history s)))

arrival_grows : (history : History) (arrival : Arrival) → Grows history (history_after history arrival)
arrival_grows history (More fragment) = fragment_grows history fragment
arrival_grows history (Joins fragment) = session_grows history fragment
arrival_grows history (Returns fragment) = fragment_grows history fragment

-- what explains a history with more leaves an order that explains the history
order_before : (more : List Arrival) (history : History) → HasOrderWhole (history_then history more) → HasOrderWhole history
order_before [] history has = has
order_before (arrival ∷ more) history has =
    let (order, explains) = order_before more (history_after history arrival) has in
    (filter (had history) order, explains_before history (history_after history arrival) order (arrival_grows history arrival) explains)

pub violated_stays : (history : History) (more : List Arrival) → ¬ HasOrderWhole history → ¬ HasOrderWhole (history_then history more)
violated_stays history more none has = none (order_before more history has)
