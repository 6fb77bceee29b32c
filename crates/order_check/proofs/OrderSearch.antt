-- A search through all orders. Where it finds none, no order explains the parts.
use Rattle.std.proofs.Common.{◌≡◌, ℕ, ◌+◌, ◌-◌, ◌<◌, ◌≤◌, Bool, true, false, not, ◌&&◌, ◌||◌, cond, List, [], ◌∷◌, ◌++◌, length, Option, Some, None, All, IsSome, is_some, is_none, nat_lt, refl, sym, ap, ◌∙◌, subst, inl, inr, zero, suc, add-zero, arith, append_assoc, append-nil, filter}
use Rattle.std.specs.List.{list_all}
use Rattle.std.proofs.lemmas.Bool.{and_from, or_right, or_left, false≢true, ltb-true, le-ltb, cases_lt, cases_eq, not_from_false}
use Rattle.std.proofs.lemmas.Option.{slice_get_past}
use Rattle.std.proofs.lemmas.List.{get_or_past}
use Rattle.std.proofs.lemmas.List.Sums.{list_all-from_AllPass}
use Rattle.std.proofs.lemmas.List.Elements.{All-weaker, filter-append}
use Rattle.list_lemmas.proofs.Places.{within_some}
use Rattle.txn.specs.declared.transactions.TxnId.{TxnId}
use Rattle.txn.specs.declared.transactions.Source.{Source}
use Rattle.txn.specs.declared.transactions.Source.TheVariants.{Init, By}
use Rattle.txn.specs.declared.transactions.Txn.{Txn}
use Rattle.txn.specs.Transactions.{same_id}
use Rattle.txn.specs.History.{in_session, ids_from, writes_key, NoneWrites, IsLastWriter}
use Rattle.txn.proofs.Ids.{same_id_itself}
use Rattle.txn.proofs.Sessions.{length_ids_from}
use Rattle.order_check.specs.declared.remainder.Parts.{Parts}
use Rattle.order_check.specs.Based.{mark_of, remaining_of, remaining_at, remaining_ids, last_gone}
use Rattle.order_check.specs.Explains.{Meets, Explains}
use Rattle.order_check.specs.Verdict.{HasOrder}
use Rattle.order_check.proofs.OrderLaws.{in_own_session}

abbrev pub none_writes : Parts → ℕ → List TxnId → Bool
none_writes parts key ids = list_all (λ id. not (writes_key (remaining_at parts id) key)) ids

-- the last that writes the key is the writer
abbrev pub ends_in : Parts → ℕ → TxnId → List TxnId → Bool
ends_in parts key writer [] = false
ends_in parts key writer (id ∷ ids) = (same_id id writer && writes_key (remaining_at parts id) key && none_writes parts key ids) || ends_in parts key writer ids

abbrev pub base_is : Option TxnId → TxnId → Bool
base_is None writer = false
base_is (Some last) writer = same_id last writer

-- a gone writer is the last gone one, and one that remains the last in front
abbrev pub met_by : Parts → Option TxnId → List TxnId → ℕ → TxnId → Bool → Bool → Bool
met_by parts base front key writer true remains = base_is base writer && none_writes parts key front
met_by parts base front key writer false true = ends_in parts key writer front
met_by parts base front key writer false false = true

abbrev pub met : Parts → (ℕ → Option TxnId) → List TxnId → ℕ → Source → Bool
met parts base front key Init = is_none (base key) && none_writes parts key front
met parts base front key (By writer) = met_by parts (base key) front key writer (nat_lt writer.number (mark_of parts writer.session)) (is_some (remaining_at parts writer))

abbrev pub reads_met : Parts → (ℕ → Option TxnId) → List TxnId → Option Txn → Bool
reads_met parts base front None = false
reads_met parts base front (Some txn) = list_all (λ read. met parts base front read.0 read.1) txn.reads

-- what a session has next behind a front
abbrev pub next_of : Parts → List TxnId → ℕ → TxnId
next_of parts front s = record { session = s; number = mark_of parts s + length (filter (in_session s) front) }

abbrev pub all_below : (ℕ → Bool) → ℕ → Bool
all_below test zero = true
all_below test (suc n) = test n && all_below test n

abbrev pub any_below : (ℕ → Bool) → ℕ → Bool
any_below test zero = false
any_below test (suc n) = test n || any_below test n

-- whether an order may go on from this front, by this many steps; where they are too few, it may
abbrev pub some_order : Parts → (ℕ → Option TxnId) → ℕ → List TxnId → Bool
some_order parts base zero front = true
some_order parts base (suc steps) front =
    all_below (λ s. is_none (remaining_at parts (next_of parts front s))) (length parts.remain)
    || any_below (λ s. elim (reads_met parts base front (remaining_at parts (next_of parts front s))) [ true ↦ some_order parts base steps (front ++ next_of parts front s ∷ []) | false ↦ false ]) (length parts.remain)

passes_none : (parts : Parts) (key : ℕ) (ids : List TxnId) → NoneWrites (remaining_at parts) key ids → none_writes parts key ids ≡ true
passes_none parts key ids none = list_all-from_AllPass (λ id. not (writes_key (remaining_at parts id) key)) ids (All-weaker (λ id. writes_key (remaining_at parts id) key ≡ false) (λ id. not (writes_key (remaining_at parts id) key) ≡ true) (λ id. not_from_false (writes_key (remaining_at parts id) key)) ids none)

passes_last : (parts : Parts) (key : ℕ) (writer : TxnId) (older newer : List TxnId) → writes_key (remaining_at parts writer) key ≡ true → none_writes parts key newer ≡ true → ends_in parts key writer (older ++ writer ∷ newer) ≡ true
passes_last parts key writer [] newer written none =
    or_left (same_id writer writer && writes_key (remaining_at parts writer) key && none_writes parts key newer) (ends_in parts key writer newer)
    (and_from (same_id writer writer && writes_key (remaining_at parts writer) key) (none_writes parts key newer) (and_from (same_id writer writer) (writes_key (remaining_at parts writer) key) (same_id_itself writer) written) none)
passes_last parts key writer (id ∷ older) newer written none =
    or_right (same_id id writer && writes_key (remaining_at parts id) key && none_writes parts key (older ++ writer ∷ newer)) (ends_in parts key writer (older ++ writer ∷ newer)) (passes_last parts key writer older newer written none)

passes_ends : (parts : Parts) (key : ℕ) (writer : TxnId) (front : List TxnId) → IsLastWriter (remaining_at parts) key front writer → ends_in parts key writer front ≡ true
passes_ends parts key writer front (older, newer, is, written, none) = rw is (passes_last parts key writer older newer written (passes_none parts key newer none))

-- what meets a read passes the test of it
passes_met : (parts : Parts) (base : ℕ → Option TxnId) → ((key : ℕ) → last_gone parts key ≡ base key) → (front : List TxnId) (key : ℕ) (source : Source) → Meets parts front key source → met parts base front key source ≡ true
passes_met parts base same front key Init meets = and_from (is_none (base key)) (none_writes parts key front) (rw (sym (same key) ∙ meets.0) refl) (passes_none parts key front meets.1)
passes_met parts base same front key (By writer) meets = by_case (nat_lt writer.number (mark_of parts writer.session)) (is_some (remaining_at parts writer)) refl refl
  where
    by_case : (gone remains : Bool) → nat_lt writer.number (mark_of parts writer.session) ≡ gone → is_some (remaining_at parts writer) ≡ remains → met_by parts (base key) front key writer gone remains ≡ true
    by_case true remains is_gone is_remaining =
        let (last, none) = meets.gone (ltb-true writer.number (mark_of parts writer.session) is_gone) in
        let base_is : base key ≡ Some writer = sym (same key) ∙ last in
        rw base_is (and_from (same_id writer writer) (none_writes parts key front) (same_id_itself writer) (passes_none parts key front none))
    by_case false true is_gone is_remaining = passes_ends parts key writer front (meets.remaining is_remaining)
    by_case false false is_gone is_remaining = refl

-- an id of a session's list stands at the place that its number says
place_of : (s number : ℕ) (txns : List Txn) (before after : List TxnId) (id : TxnId) → before ++ id ∷ after ≡ ids_from s number txns → (id ≡ record { session = s; number = number + length before }) × (length before < length txns)
place_of s number [] [] after id is = absurd (cc)
place_of s number [] (x ∷ before) after id is = absurd (cc)
place_of s number (txn ∷ txns) [] after id is =
    let here : id ≡ record { session = s; number = number } = cc in
    (rw add-zero here, omega arith)
place_of s number (txn ∷ txns) (x ∷ before) after id is =
    let rest : before ++ id ∷ after ≡ ids_from s (number + 1) txns = cc in
    let (here, within) = place_of s (number + 1) txns before after id rest in
    let place : number + suc (length before) ≡ number + 1 + length before = omega arith in
    (rw place here, omega arith)

-- what stands of a session in front of an id of it, and behind
around : (parts : Parts) (front back : List TxnId) (id : TxnId) → Explains parts (front ++ id ∷ back) → filter (in_session id.session) front ++ id ∷ filter (in_session id.session) back ≡ remaining_ids parts id.session
around parts front back id explains =
    let own = in_session id.session in
    sym (filter-append own front (id ∷ back) ∙ ap (λ b. filter own front ++ cond b (id ∷ filter own back) (filter own back)) (in_own_session id)) ∙ explains.sessions id.session

-- what a session has next remains
next_remains : (parts : Parts) (front : List TxnId) (s : ℕ) → length (filter (in_session s) front) < length (remaining_of parts s) → IsSome (remaining_at parts (next_of parts front s))
next_remains parts front s within =
    let count = length (filter (in_session s) front) in
    let mark = mark_of parts s in
    let kept : nat_lt (mark + count) mark ≡ false = le-ltb (mark + count) mark (omega arith) in
    let place : mark + count - mark ≡ count = omega arith in
    rw (kept, place) (within_some (remaining_of parts s) count within)

session_within : (parts : Parts) (s n : ℕ) → n < length (remaining_of parts s) → s < length parts.remain
session_within parts s n within = elim (cases_lt s (length parts.remain)) [ inl here ↦ here | inr past ↦ missing past ]
  where
    missing : length parts.remain ≤ s → s < length parts.remain
    missing past = let none = ap length (get_or_past parts.remain s [] past) in absurd (omega arith)

-- behind a whole order nothing comes
ended : (parts : Parts) (front : List TxnId) → Explains parts front → (s : ℕ) → is_none (remaining_at parts (next_of parts front s)) ≡ true
ended parts front explains s =
    let filtered : length (filter (in_session s) front) ≡ length (remaining_of parts s) = ap length (explains.sessions s) ∙ length_ids_from s (mark_of parts s) (remaining_of parts s) in
    let kept : nat_lt (mark_of parts s + length (filter (in_session s) front)) (mark_of parts s) ≡ false = le-ltb (mark_of parts s + length (filter (in_session s) front)) (mark_of parts s) (omega arith) in
    rw (kept, slice_get_past (remaining_of parts s) (mark_of parts s + length (filter (in_session s) front) - mark_of parts s) (omega arith)) refl

all_pass : (test : ℕ → Bool) → ((s : ℕ) → test s ≡ true) → (n : ℕ) → all_below test n ≡ true
all_pass test each zero = refl
all_pass test each (suc n) = and_from (test n) (all_below test n) (each n) (all_pass test each n)

any_passes : (test : ℕ → Bool) (n s : ℕ) → s < n → test s ≡ true → any_below test n ≡ true
any_passes test zero s within pass = absurd (omega arith)
any_passes test (suc n) s within pass = elim (cases_eq s n) [ inl here ↦ or_left (test n) (any_below test n) (subst (λ m. test m ≡ true) here pass) | inr apart ↦ or_right (test n) (any_below test n) (any_passes test n s (omega arith) pass) ]

passes_reads : (parts : Parts) (base : ℕ → Option TxnId) → ((key : ℕ) → last_gone parts key ≡ base key) → (front : List TxnId) (at : Option Txn) → IsSome at → ((txn : Txn) → at ≡ Some txn → All (λ read. Meets parts front read.0 read.1) txn.reads) → reads_met parts base front at ≡ true
passes_reads parts base same front None some meets = absurd (false≢true some)
passes_reads parts base same front (Some txn) some meets = list_all-from_AllPass (λ read. met parts base front read.0 read.1) txn.reads (All-weaker (λ read. Meets parts front read.0 read.1) (λ read. met parts base front read.0 read.1 ≡ true) (λ read. passes_met parts base same front read.0 read.1) txn.reads (meets txn refl))

goes_on : (fits found : Bool) → fits ≡ true → found ≡ true → elim fits as (λ _. Bool) [ true ↦ found | false ↦ false ] ≡ true
goes_on true found fit is = is
goes_on false found fit is = absurd (false≢true fit)

-- where the search finds how an order goes on behind one more id, it finds how it goes on
finds_more : (parts : Parts) (base : ℕ → Option TxnId) → ((key : ℕ) → last_gone parts key ≡ base key) → (steps : ℕ) (front back : List TxnId) (id : TxnId) → Explains parts (front ++ id ∷ back) → ((next : TxnId) → Explains parts ((front ++ next ∷ []) ++ back) → some_order parts base steps (front ++ next ∷ []) ≡ true) → some_order parts base (suc steps) front ≡ true
finds_more parts base same steps front back id explains rest =
    or_right (all_below (λ s. is_none (remaining_at parts (next_of parts front s))) (length parts.remain)) (any_below goes (length parts.remain))
    (any_passes goes (length parts.remain) id.session (session_within parts id.session (length (filter (in_session id.session) front)) place.1)
    (goes_on (reads_met parts base front (remaining_at parts next)) (some_order parts base steps (front ++ next ∷ [])) fits (rest next (subst (Explains parts) (sym (append_assoc front (next ∷ []) back)) from_next))))
  where
    next : TxnId
    next = next_of parts front id.session

    goes : ℕ → Bool
    goes s = elim (reads_met parts base front (remaining_at parts (next_of parts front s))) as (λ _. Bool) [ true ↦ some_order parts base steps (front ++ next_of parts front s ∷ []) | false ↦ false ]

    place : (id ≡ next) × (length (filter (in_session id.session) front) < length (remaining_of parts id.session))
    place = place_of id.session (mark_of parts id.session) (remaining_of parts id.session) (filter (in_session id.session) front) (filter (in_session id.session) back) id (around parts front back id explains)

    from_next : Explains parts (front ++ next ∷ back)
    from_next = subst (λ i. Explains parts (front ++ i ∷ back)) place.0 explains

    fits : reads_met parts base front (remaining_at parts next) ≡ true
    fits = passes_reads parts base same front (remaining_at parts next) (next_remains parts front id.session place.1) (from_next.reads front back next refl)

-- what explains, the search finds
finds : (parts : Parts) (base : ℕ → Option TxnId) → ((key : ℕ) → last_gone parts key ≡ base key) → (steps : ℕ) (front rest : List TxnId) → Explains parts (front ++ rest) → some_order parts base steps front ≡ true
finds parts base same zero front rest explains = refl
finds parts base same (suc steps) front [] explains =
    or_left (all_below (λ s. is_none (remaining_at parts (next_of parts front s))) (length parts.remain)) _
    (all_pass (λ s. is_none (remaining_at parts (next_of parts front s))) (ended parts front (subst (Explains parts) (append-nil front) explains)) (length parts.remain))
finds parts base same (suc steps) front (id ∷ back) explains = finds_more parts base same steps front back id explains (λ next go. finds parts base same steps (front ++ next ∷ []) back go)

-- where the search finds no order, none explains the parts
pub no_order : (parts : Parts) (base : ℕ → Option TxnId) (steps : ℕ) → ((key : ℕ) → last_gone parts key ≡ base key) → some_order parts base steps [] ≡ false → ¬ HasOrder parts
no_order parts base steps same none (order, explains) = false≢true (sym none ∙ finds parts base same steps [] order explains)
