-- What is looked up in a rewritten history.
use Rattle.std.proofs.Common.{◌≡◌, ℕ, ◌+◌, ◌*◌, ◌<◌, ◌≤◌, ◌^◌, ◌⊎◌, Bool, true, false, ◌||◌, List, [], ◌∷◌, length, Some, None, Option, refl, sym, ap, subst, ◌∙◌, inl, inr, arith, suc, zero, add-zero, IsSome}
use Rattle.std.specs.Prelude.{All, map, nat_eq, option_map}
use Rattle.std.specs.List.{slice_get, list_any}
use Rattle.std.proofs.lemmas.Bool.{false≢true, eq-eqb, eqb-true, or_cases, or_right}
use Rattle.std.proofs.lemmas.Bool.Decides.{eqb_tells}
use Rattle.std.proofs.lemmas.List.Elements.{All-head, All-tail, All-weaker}
use Rattle.std.proofs.lemmas.List.Folds.{list_any-append, list_any_none}
use Rattle.std.proofs.lemmas.Option.{get_or_from_slice_get, slice_get-map, slice_get_within}
use Rattle.txn.specs.declared.transactions.TxnId.{TxnId}
use Rattle.txn.specs.History.{session_of, txn_at, ids_from, writes_key}
use Rattle.txn.proofs.Ids.{same_numbers}
use Rattle.strict_histories.specs.declared.timed.TimedTxn.{TimedTxn}
use Rattle.strict_histories.specs.Rewriting.{HasLowKeys, HasRoomForTimes, end_key, end_writes, strict_history, strict_sessions, strict_txn, strict_txns}
use Rattle.strict_histories.specs.Strict.{TimedHistory, timed_at, untimed}

-- ---- sessions and transactions

pub untimed_session : (timed : TimedHistory) (s : ℕ) → session_of (untimed timed) s ≡ map (λ (t : TimedTxn). t.txn) (session_of timed s)
untimed_session [] s = refl
untimed_session (txns ∷ timed) zero = refl
untimed_session (txns ∷ timed) (suc s) = untimed_session timed s

pub untimed_at : (timed : TimedHistory) (id : TxnId) → txn_at (untimed timed) id ≡ option_map (λ (t : TimedTxn). t.txn) (timed_at timed id)
untimed_at timed id = ap (λ txns. slice_get txns id.number) (untimed_session timed id.session) ∙ slice_get-map (λ (t : TimedTxn). t.txn) (session_of timed id.session) id.number

session_from : (timed : TimedHistory) (m : ℕ) (sessions : TimedHistory) (s : ℕ) → session_of (strict_sessions timed m sessions) s ≡ strict_txns timed (m + s) 0 (session_of sessions s)
session_from timed m [] s = refl
session_from timed m (txns ∷ sessions) zero = rw add-zero refl
session_from timed m (txns ∷ sessions) (suc s) = let moved : m + 1 + s ≡ m + suc s = omega arith in rw (← moved) (session_from timed (m + 1) sessions s)

-- a session of a rewritten history is the session rewritten
pub strict_session : (timed : TimedHistory) (s : ℕ) → session_of (strict_history timed) s ≡ strict_txns timed s 0 (session_of timed s)
strict_session timed s = let n : 0 + s ≡ s = omega arith in session_from timed 0 timed s ∙ ap (λ k. strict_txns timed k 0 (session_of timed s)) n

txns_at : (timed : TimedHistory) (s number : ℕ) (txns : List TimedTxn) (k : ℕ) → slice_get (strict_txns timed s number txns) k ≡ option_map (strict_txn timed (record { session = s; number = number + k })) (slice_get txns k)
txns_at timed s number [] k = refl
txns_at timed s number (t ∷ txns) zero = rw add-zero refl
txns_at timed s number (t ∷ txns) (suc k) = let moved : number + 1 + k ≡ number + suc k = omega arith in rw (← moved) (txns_at timed s (number + 1) txns k)

pub strict_at : (timed : TimedHistory) (id : TxnId) → txn_at (strict_history timed) id ≡ option_map (strict_txn timed id) (timed_at timed id)
strict_at timed id =
    let n : 0 + id.number ≡ id.number = omega arith in
    ap (λ txns. slice_get txns id.number) (strict_session timed id.session)
    ∙ txns_at timed id.session 0 (session_of timed id.session) id.number
    ∙ ap (λ n. option_map (strict_txn timed (record { session = id.session; number = n })) (timed_at timed id)) n

ids_kept : (timed : TimedHistory) (s m number : ℕ) (txns : List TimedTxn) → ids_from s m (strict_txns timed s number txns) ≡ ids_from s m (map (λ (t : TimedTxn). t.txn) txns)
ids_kept timed s m number [] = refl
ids_kept timed s m number (t ∷ txns) = ap (λ (ids : List TxnId). record { session = s; number = m } ∷ ids) (ids_kept timed s (m + 1) (number + 1) txns)

-- each session has the same ids
pub same_ids : (timed : TimedHistory) (s : ℕ) → ids_from s 0 (session_of (strict_history timed) s) ≡ ids_from s 0 (session_of (untimed timed) s)
same_ids timed s = ap (ids_from s 0) (strict_session timed s) ∙ ids_kept timed s 0 0 (session_of timed s) ∙ sym (ap (ids_from s 0) (untimed_session timed s))

-- where there is a transaction, there is what is made of it
pub some_of_map : {A B C : Type 0} (f : A → B) (g : A → C) (found : Option A) → IsSome (option_map f found) → IsSome (option_map g found)
some_of_map f g None some = some
some_of_map f g (Some a) some = some

-- ---- room for the keys of ends

row_at : {X : Type 0} (P : List X → Type 0) (rows : List (List X)) → All P rows → (s k : ℕ) (x : X) → slice_get (session_of rows s) k ≡ Some x → P (session_of rows s)
row_at P [] all s k x at = absurd cc
row_at P (row ∷ rows) all zero k x at = All-head P row rows all
row_at P (row ∷ rows) all (suc s) k x at = row_at P rows (All-tail P row rows all) s k x at

at_all : {X : Type 0} (P : X → Type 0) (xs : List X) (k : ℕ) (x : X) → All P xs → slice_get xs k ≡ Some x → P x
at_all P xs k x all at = subst P (get_or_from_slice_get xs k x x at) (all k x (slice_get_within xs k x at))

pub low_keys : (timed : TimedHistory) (id : TxnId) (t : TimedTxn) → HasRoomForTimes timed → timed_at timed id ≡ Some t → HasLowKeys t.txn
low_keys timed id t room at = at_all (λ (t : TimedTxn). HasLowKeys t.txn) (session_of timed id.session) id.number t (row_at (All (λ (t : TimedTxn). HasLowKeys t.txn)) timed room.keys id.session id.number t at) at

pub low_number : (timed : TimedHistory) (id : TxnId) (t : TimedTxn) → HasRoomForTimes timed → timed_at timed id ≡ Some t → id.number < 2 ^ 48
low_number timed id t room at =
    let long = row_at (λ txns. length txns ≤ 2 ^ 48) timed room.numbers id.session id.number t at in
    let within = slice_get_within (session_of timed id.session) id.number t at in
    omega (arith, long, within)

-- ---- who writes what

any_end : (key : ℕ) (id : TxnId) (ended : Option ℕ) → key < 2 ^ 62 → list_any (nat_eq key) (end_writes id ended) ≡ false
any_end key id None low = refl
any_end key id (Some ended) low = ap (λ t. t || false) (by_test (eqb_tells key (end_key id)))
  where
    by_test : ((nat_eq key (end_key id) ≡ true) × (key ≡ end_key id)) ⊎ ((nat_eq key (end_key id) ≡ false) × (key ≡ end_key id → ⊥)) → nat_eq key (end_key id) ≡ false
    by_test (inl x) = let is : key ≡ 2 ^ 62 + id.session * 2 ^ 48 + id.number = x.1 in absurd (omega (arith, is, low))
    by_test (inr x) = x.0

or_false : (b : Bool) → (b || false) ≡ b
or_false true = refl
or_false false = refl

-- a key of the history is written by the same transactions
pub same_writes : (timed : TimedHistory) (id : TxnId) (key : ℕ) → key < 2 ^ 62 → writes_key (txn_at (strict_history timed) id) key ≡ writes_key (txn_at (untimed timed) id) key
same_writes timed id key low = ap (λ o. writes_key o key) (strict_at timed id) ∙ by_found (timed_at timed id) ∙ sym (ap (λ o. writes_key o key) (untimed_at timed id))
  where
    by_found : (found : Option TimedTxn) → writes_key (option_map (strict_txn timed id) found) key ≡ writes_key (option_map (λ (t : TimedTxn). t.txn) found) key
    by_found None = refl
    by_found (Some t) =
        list_any-append (nat_eq key) t.txn.writes (end_writes id t.span.ended)
        ∙ ap (λ b. list_any (nat_eq key) t.txn.writes || b) (any_end key id t.span.ended low)
        ∙ or_false (list_any (nat_eq key) t.txn.writes)

-- a transaction that ended writes its key
pub writes_own : (timed : TimedHistory) (id : TxnId) (t : TimedTxn) (ended : ℕ) → timed_at timed id ≡ Some t → t.span.ended ≡ Some ended → writes_key (txn_at (strict_history timed) id) (end_key id) ≡ true
writes_own timed id t ended at is =
    ap (λ o. writes_key o (end_key id)) (strict_at timed id ∙ ap (option_map (strict_txn timed id)) at)
    ∙ list_any-append (nat_eq (end_key id)) t.txn.writes (end_writes id t.span.ended)
    ∙ or_right (list_any (nat_eq (end_key id)) t.txn.writes) (list_any (nat_eq (end_key id)) (end_writes id t.span.ended))
    (ap (λ o. list_any (nat_eq (end_key id)) (end_writes id o)) is ∙ ap (λ b. b || false) (eq-eqb (end_key id) (end_key id) refl))

-- two transactions with one key are one
one_key : (id x : TxnId) → id.number < 2 ^ 48 → x.number < 2 ^ 48 → end_key id ≡ end_key x → x ≡ id
one_key id x small other_small is =
    let e : 2 ^ 62 + id.session * 2 ^ 48 + id.number ≡ 2 ^ 62 + x.session * 2 ^ 48 + x.number = is in
    let session : x.session ≡ id.session = omega (arith, e, small, other_small) in
    same_numbers x id session (omega (arith, e, session))

-- and no other does
pub only_own : (timed : TimedHistory) (id x : TxnId) → HasRoomForTimes timed → id.number < 2 ^ 48 → writes_key (txn_at (strict_history timed) x) (end_key id) ≡ true → x ≡ id
only_own timed id x room small writes = by_found (timed_at timed x) refl (sym (ap (λ o. writes_key o (end_key id)) (strict_at timed x)) ∙ writes)
  where
    apart : (key : ℕ) → key < 2 ^ 62 → nat_eq (end_key id) key ≡ false
    apart key low = by_test (eqb_tells (end_key id) key)
      where
        by_test : ((nat_eq (end_key id) key ≡ true) × (end_key id ≡ key)) ⊎ ((nat_eq (end_key id) key ≡ false) × (end_key id ≡ key → ⊥)) → nat_eq (end_key id) key ≡ false
        by_test (inl x) = let is : 2 ^ 62 + id.session * 2 ^ 48 + id.number ≡ key = x.1 in absurd (omega (arith, is, low))
        by_test (inr x) = x.0

    by_end : (ended : Option ℕ) → x.number < 2 ^ 48 → list_any (nat_eq (end_key id)) (end_writes x ended) ≡ true → x ≡ id
    by_end None other_small h = absurd (false≢true h)
    by_end (Some ended) other_small h = one_key id x small other_small (eqb-true (end_key id) (end_key x) (sym (or_false (nat_eq (end_key id) (end_key x))) ∙ h))

    by_found : (found : Option TimedTxn) → timed_at timed x ≡ found → writes_key (option_map (strict_txn timed x) found) (end_key id) ≡ true → x ≡ id
    by_found None at h = absurd (false≢true h)
    by_found (Some t) at h = by_part (or_cases (list_any (nat_eq (end_key id)) t.txn.writes) (list_any (nat_eq (end_key id)) (end_writes x t.span.ended)) (sym (list_any-append (nat_eq (end_key id)) t.txn.writes (end_writes x t.span.ended)) ∙ h))
      where
        none : list_any (nat_eq (end_key id)) t.txn.writes ≡ false
        none = list_any_none (nat_eq (end_key id)) t.txn.writes (All-weaker (λ key. key < 2 ^ 62) (λ key. nat_eq (end_key id) key ≡ false) apart t.txn.writes (low_keys timed x t room at).writes)

        by_part : (list_any (nat_eq (end_key id)) t.txn.writes ≡ true) ⊎ (list_any (nat_eq (end_key id)) (end_writes x t.span.ended) ≡ true) → x ≡ id
        by_part (inl own) = absurd (false≢true (sym none ∙ own))
        by_part (inr end) = by_end t.span.ended (low_number timed x t room at) end
