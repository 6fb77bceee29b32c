-- A test of each remaining transaction, and what its answer says of ids.
use Rattle.std.proofs.Common.{◌≡◌, ◌≢◌, ℕ, ◌+◌, ◌-◌, ◌<◌, Bool, true, false, ◌&&◌, List, [], ◌∷◌, length, Option, Some, None, Contains, IsSome, IsSomeAnd, nat_eq, refl, sym, ◌∙◌, subst, inl, inr, zero, suc, add-zero, arith}
use Rattle.std.specs.List.{slice_get, list_any, list_all}
use Rattle.std.proofs.lemmas.Bool.{and_parts, false≢true, cases_eq, cases_lt}
use Rattle.std.proofs.lemmas.Option.{same_Some}
use Rattle.std.proofs.lemmas.List.{get_or_past}
use Rattle.std.proofs.lemmas.List.Sums.{AllPass-from_list_all}
use Rattle.std.proofs.lemmas.List.Elements.{All-contains}
use Rattle.txn.specs.declared.transactions.TxnId.{TxnId}
use Rattle.txn.specs.declared.transactions.Source.{Source}
use Rattle.txn.specs.declared.transactions.Txn.{Txn}
use Rattle.txn.specs.Transactions.{same_id}
use Rattle.txn.specs.History.{writes_key}
use Rattle.txn.proofs.Ids.{same_id_itself}
use Rattle.order_check.specs.declared.remainder.Parts.{Parts}
use Rattle.order_check.specs.Based.{mark_of, remaining_of, remaining_at, Remains}
use Rattle.order_check.specs.Known.{ReadsKey, WritesKey}
use Rattle.order_check.proofs.Remaining.{remaining_place}

-- the test passes at each transaction of a session, the first with this number
abbrev pub each_from : (TxnId → Txn → Bool) → ℕ → ℕ → List Txn → Bool
each_from test s number [] = true
each_from test s number (txn ∷ txns) = test (record { session = s; number = number }) txn && each_from test s (number + 1) txns

-- the test passes at each that remains of the sessions below this one
abbrev pub each_below : (TxnId → Txn → Bool) → Parts → ℕ → Bool
each_below test parts zero = true
each_below test parts (suc s) = each_from test s (mark_of parts s) (remaining_of parts s) && each_below test parts s

-- the test passes at each that remains
abbrev pub each : (TxnId → Txn → Bool) → Parts → Bool
each test parts = each_below test parts (length parts.remain)

each_from_at : (test : TxnId → Txn → Bool) (s number : ℕ) (txns : List Txn) → each_from test s number txns ≡ true → (k : ℕ) (txn : Txn) → slice_get txns k ≡ Some txn → test (record { session = s; number = number + k }) txn ≡ true
each_from_at test s number [] all k txn at = absurd (cc)
each_from_at test s number (first ∷ txns) all zero txn at =
    let here = (and_parts (test (record { session = s; number = number }) first) (each_from test s (number + 1) txns) all).0 in
    rw (add-zero, ← same_Some first txn at) here
each_from_at test s number (first ∷ txns) all (suc k) txn at =
    let rest = (and_parts (test (record { session = s; number = number }) first) (each_from test s (number + 1) txns) all).1 in
    let place : number + suc k ≡ number + 1 + k = omega arith in
    rw place (each_from_at test s (number + 1) txns rest k txn at)

each_below_at : (test : TxnId → Txn → Bool) (parts : Parts) (n s : ℕ) → each_below test parts n ≡ true → s < n → each_from test s (mark_of parts s) (remaining_of parts s) ≡ true
each_below_at test parts zero s all within = absurd (omega arith)
each_below_at test parts (suc n) s all within = elim (cases_eq s n) [ inl here ↦ rw here both.0 | inr apart ↦ each_below_at test parts n s both.1 (omega arith) ]
  where
    both : (each_from test n (mark_of parts n) (remaining_of parts n) ≡ true) × (each_below test parts n ≡ true)
    both = and_parts (each_from test n (mark_of parts n) (remaining_of parts n)) (each_below test parts n) all

-- what passes at each that remains passes at this one
pub each_at : (test : TxnId → Txn → Bool) (parts : Parts) → each test parts ≡ true → (id : TxnId) (txn : Txn) → remaining_at parts id ≡ Some txn → test id txn ≡ true
each_at test parts all id txn at =
    let mark = mark_of parts id.session in
    let (above, here) = remaining_place parts id txn at in
    let place : mark + (id.number - mark) ≡ id.number = omega arith in
    subst (λ n. test (record { session = id.session; number = n }) txn ≡ true) place (each_from_at test id.session mark (remaining_of parts id.session) (session here) (id.number - mark) txn here)
  where
    session : slice_get (remaining_of parts id.session) (id.number - mark_of parts id.session) ≡ Some txn → each_from test id.session (mark_of parts id.session) (remaining_of parts id.session) ≡ true
    session is = elim (cases_lt id.session (length parts.remain)) [ inl within ↦ each_below_at test parts (length parts.remain) id.session all within | inr past ↦ rw (get_or_past parts.remain id.session [] past) refl ]

-- the first fact implies the second
abbrev pub implies : Bool → Bool → Bool
implies false b = true
implies true b = b

pub implied : (a b : Bool) → implies a b ≡ true → a ≡ true → b ≡ true
implied true b h e = h
implied false b h e = absurd (false≢true e)

some_value : {X : Type 0} (o : Option X) → IsSome o → (x : X) × (o ≡ Some x)
some_value None some = absurd (false≢true some)
some_value (Some x) some = (x, refl)

-- a test of each id that remains
pub each_remains : (test : TxnId → Bool) (parts : Parts) → each (λ id _. test id) parts ≡ true → (id : TxnId) → Remains parts id → test id ≡ true
each_remains test parts all id remains =
    let (txn, at) = some_value (remaining_at parts id) remains in
    each_at (λ i _. test i) parts all id txn at

-- a test of each read
abbrev pub each_read : (TxnId → ℕ × Source → Bool) → Parts → Bool
each_read test parts = each (λ id txn. list_all (test id) txn.reads) parts

pub each_read_at : (test : TxnId → ℕ × Source → Bool) (parts : Parts) → each_read test parts ≡ true → (id : TxnId) (key : ℕ) (source : Source) → ReadsKey parts id key source → test id (key, source) ≡ true
each_read_at test parts all id key source = by_case (remaining_at parts id) refl
  where
    by_case : (o : Option Txn) → remaining_at parts id ≡ o → IsSomeAnd o (λ txn. Contains txn.reads (key, source)) → test id (key, source) ≡ true
    by_case None is reads = absurd reads
    by_case (Some txn) is reads = All-contains (λ read. test id read ≡ true) txn.reads (key, source) (AllPass-from_list_all (test id) txn.reads (each_at (λ i t. list_all (test i) t.reads) parts all id txn is)) reads

-- a test of each writer of the key
abbrev pub each_writer : ℕ → (TxnId → Bool) → Parts → Bool
each_writer key test parts = each (λ id txn. implies (list_any (nat_eq key) txn.writes) (test id)) parts

pub each_writer_at : (key : ℕ) (test : TxnId → Bool) (parts : Parts) → each_writer key test parts ≡ true → (id : TxnId) → WritesKey parts id key → test id ≡ true
each_writer_at key test parts all id = by_case (remaining_at parts id) refl
  where
    by_case : (o : Option Txn) → remaining_at parts id ≡ o → writes_key o key ≡ true → test id ≡ true
    by_case None is written = absurd (false≢true written)
    by_case (Some txn) is written = implied (list_any (nat_eq key) txn.writes) (test id) (each_at (λ i t. implies (list_any (nat_eq key) t.writes) (test i)) parts all id txn is) written

pub apart_by_test : (a b : TxnId) → same_id a b ≡ false → a ≢ b
apart_by_test a b test same = false≢true (sym test ∙ subst (λ x. same_id a x ≡ true) same (same_id_itself a))
