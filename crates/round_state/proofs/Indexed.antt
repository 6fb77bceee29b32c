-- The index of pending reads keeps having exactly the pending reads of the parts.
use Rattle.std.proofs.Common.{◌≡◌, ◌≢◌, ℕ, suc, ◌+◌, ◌-◌, ◌<◌, ◌≤◌, ◌⊎◌, inl, inr, Bool, true, false, cond, nat_lt, refl, sym, ap, subst, ◌∙◌, List, [], ◌∷◌, ◌++◌, length, length-append, get_or, get_or-set_same, get_or-set_other, Option, Some, None, arith}
use Rattle.std.specs.Prelude.{Contains, slice_get, IsSomeAnd, ◌↔◌}
use Rattle.std.proofs.lemmas.Bool.{false≢true, lt-ltb, le-ltb, cases_eq, cases_lt}
use Rattle.std.proofs.lemmas.List.{get_or_default}
use Rattle.std.proofs.lemmas.Option.{slice_get_within}
use Rattle.list_lemmas.proofs.Places.{place_in, place_left}
use Rattle.list_lemmas.proofs.Options.{some_and_of}
use Rattle.txn.specs.declared.transactions.TxnId.{TxnId}
use Rattle.txn.specs.declared.transactions.Source.{Source}
use Rattle.txn.specs.declared.transactions.Source.TheVariants.{By}
use Rattle.txn.specs.declared.transactions.Txn.{Txn}
use Rattle.txn.specs.declared.transactions.Fragment.{Fragment}
use Rattle.txn.specs.History.{session_of, Reads}
use Rattle.txn.specs.Transactions.{id_in}
use Rattle.session_marks.specs.declared.marks.SessionMark.{SessionMark}
use Rattle.session_marks.specs.Marks.{IsReceived as IsMarked}
use Rattle.pending_reads.specs.Waiting.{Index, Waits, HasWaiting, WaitsAlso, WaitsAsBefore, AreNew}
use Rattle.order_check.specs.declared.remainder.Parts.{Parts}
use Rattle.order_check.specs.Based.{mark_of, remaining_of, remaining_at, received_count, IsReceived, HasPending}
use Rattle.order_check.specs.StandsFor.{parts_with}
use Rattle.round_state.specs.Awaiting.{awaited_from, IsOneOf, HaveArrived}
use Rattle.round_state.specs.Steps.{IsAdmitted}
use Rattle.round_state.specs.Tracked.{AreMarksOf, IsIndexOf, IsPendingRead}
use Rattle.round_state.proofs.Awaited.{from_sound, from_complete, awaited_once}

-- what an id finds

at_behind : {X : Type 0} (xs ys : List X) (n : ℕ) → slice_get (xs ++ ys) (length xs + n) ≡ slice_get ys n
at_behind [] ys n = let e : 0 + n ≡ n = omega arith in ap (slice_get ys) e
at_behind (x ∷ xs) ys n = let e : suc (length xs) + n ≡ suc (length xs + n) = omega arith in ap (slice_get (x ∷ xs ++ ys)) e ∙ at_behind xs ys n

-- the transaction of a session that starts at a mark
abbrev pub found : ℕ → List Txn → ℕ → Option Txn
found mark txns number = cond (nat_lt number mark) None (slice_get txns (number - mark))

pub found_low : (mark : ℕ) (txns : List Txn) (number : ℕ) (txn : Txn) → found mark txns number ≡ Some txn → (mark ≤ number) × (slice_get txns (number - mark) ≡ Some txn)
found_low mark txns number txn at = by_test (nat_lt number mark) refl at
  where
    by_test : (t : Bool) → nat_lt number mark ≡ t → cond t None (slice_get txns (number - mark)) ≡ Some txn → (mark ≤ number) × (slice_get txns (number - mark) ≡ Some txn)
    by_test true test h = absurd cc
    by_test false test h = (elim (cases_lt number mark) [ inl low ↦ absurd (false≢true (sym test ∙ lt-ltb number mark low)) | inr high ↦ high ], h)

pub found_at : (mark : ℕ) (txns : List Txn) (number : ℕ) (txn : Txn) → mark ≤ number → slice_get txns (number - mark) ≡ Some txn → found mark txns number ≡ Some txn
found_at mark txns number txn high at = ap (λ t. cond t None (slice_get txns (number - mark))) (le-ltb number mark high) ∙ at

pub some_and_from : {X : Type 0} (o : Option X) (P : X → Type 0) (x : X) → o ≡ Some x → P x → IsSomeAnd o P
some_and_from o P x e h = subst (λ p. IsSomeAnd p P) (sym e) h

-- what remains was received
remains_received : (parts : Parts) (id : TxnId) (txn : Txn) → remaining_at parts id ≡ Some txn → id.number < received_count parts id.session
remains_received parts id txn at =
    let low = found_low (mark_of parts id.session) (remaining_of parts id.session) id.number txn at in
    let within = slice_get_within (remaining_of parts id.session) (id.number - mark_of parts id.session) txn low.1 in
    omega (arith, low.0, within)

-- the parts with a fragment

-- what remains of a session, with the fragment
session_with : (parts : Parts) (f : Fragment) → f.session < length parts.remain → remaining_of (parts_with parts f) f.session ≡ remaining_of parts f.session ++ f.txns
session_with parts f within = get_or-set_same parts.remain f.session (session_of parts.remain f.session ++ f.txns) [] within

session_other : (parts : Parts) (f : Fragment) (s : ℕ) → s ≢ f.session → remaining_of (parts_with parts f) s ≡ remaining_of parts s
session_other parts f s other = get_or-set_other parts.remain f.session s (session_of parts.remain f.session ++ f.txns) [] other

count_with : (parts : Parts) (f : Fragment) → f.session < length parts.remain → f.first ≡ received_count parts f.session → received_count (parts_with parts f) f.session ≡ f.first + length f.txns
count_with parts f within next = omega (arith, ap length (session_with parts f within), length-append (remaining_of parts f.session) f.txns, next)

-- an id is received with the fragment where it was before, or is one of the fragment's
received_with : (parts : Parts) (f : Fragment) (id : TxnId) → f.session < length parts.remain → f.first ≡ received_count parts f.session → IsReceived (parts_with parts f) id → IsReceived parts id ⊎ IsOneOf f.session f.first (length f.txns) id
received_with parts f id within next received = elim (cases_eq id.session f.session) [
  | inl same ↦
      let all = subst (λ s. id.number < received_count (parts_with parts f) s) same received in
      let high : id.number < f.first + length f.txns = omega (arith, all, count_with parts f within next) in
      elim (cases_lt id.number f.first) [
        | inl low ↦ let here : id.number < received_count parts f.session = omega (arith, low, next) in inl (subst (λ s. id.number < received_count parts s) (sym same) here)
        | inr low ↦ inr (record { session = same; low = low; high = high })
      ]
  | inr other ↦ inl (omega (arith, received, ap length (session_other parts f id.session other)))
]

received_still : (parts : Parts) (f : Fragment) (id : TxnId) → f.session < length parts.remain → f.first ≡ received_count parts f.session → IsReceived parts id → IsReceived (parts_with parts f) id
received_still parts f id within next received = elim (cases_eq id.session f.session) [
  | inl same ↦
      let before = subst (λ s. id.number < received_count parts s) same received in
      let here : id.number < received_count (parts_with parts f) f.session = omega (arith, before, next, count_with parts f within next) in
      subst (λ s. id.number < received_count (parts_with parts f) s) (sym same) here
  | inr other ↦ omega (arith, received, ap length (session_other parts f id.session other))
]

one_received : (parts : Parts) (f : Fragment) (id : TxnId) → f.session < length parts.remain → f.first ≡ received_count parts f.session → IsOneOf f.session f.first (length f.txns) id → IsReceived (parts_with parts f) id
one_received parts f id within next one =
    let here : id.number < received_count (parts_with parts f) f.session = omega (arith, one.high, count_with parts f within next) in
    subst (λ s. id.number < received_count (parts_with parts f) s) (sym one.session) here

-- a read of the parts with the fragment is one of the parts before, or of a transaction of the fragment
abbrev IsNewRead : Fragment → TxnId → ℕ → Source → Type 0
IsNewRead f reader key source = (n : ℕ) × (txn : Txn) × (slice_get f.txns n ≡ Some txn) × (reader ≡ id_in f n) × Contains txn.reads (key, source)

reads_with : (parts : Parts) (f : Fragment) (reader : TxnId) (key : ℕ) (source : Source) → f.session < length parts.remain → f.first ≡ received_count parts f.session → Reads (remaining_at (parts_with parts f)) reader key source → Reads (remaining_at parts) reader key source ⊎ IsNewRead f reader key source
reads_with parts f reader key source within next reads = elim (cases_eq reader.session f.session) [
  | inl same ↦ here same (some_and_of (remaining_at (parts_with parts f) reader) (λ txn. Contains txn.reads (key, source)) reads)
  | inr other ↦ inl (subst (λ txns. IsSomeAnd (found (mark_of parts reader.session) txns reader.number) (λ txn. Contains txn.reads (key, source))) (session_other parts f reader.session other) reads)
]
  where
    here : reader.session ≡ f.session → ((txn : Txn) × (remaining_at (parts_with parts f) reader ≡ Some txn) × Contains txn.reads (key, source)) → Reads (remaining_at parts) reader key source ⊎ IsNewRead f reader key source
    here same (txn, at, has) =
        let mark = mark_of parts f.session in
        let before = remaining_of parts f.session in
        let there : found mark (remaining_of (parts_with parts f) f.session) reader.number ≡ Some txn = subst (λ s. found (mark_of parts s) (remaining_of (parts_with parts f) s) reader.number ≡ Some txn) same at in
        let there : found mark (before ++ f.txns) reader.number ≡ Some txn = subst (λ txns. found mark txns reader.number ≡ Some txn) (session_with parts f within) there in
        let low = found_low mark (before ++ f.txns) reader.number txn there in
        elim (place_in before f.txns (reader.number - mark) txn low.1) [
          | inl old ↦
              let is : found mark before reader.number ≡ Some txn = found_at mark before reader.number txn low.0 old in
              inl (some_and_from (remaining_at parts reader) (λ (t : Txn). Contains t.reads (key, source)) txn (subst (λ s. found (mark_of parts s) (remaining_of parts s) reader.number ≡ Some txn) (sym same) is) has)
          | inr new ↦
              let number : reader.number ≡ f.first + new.0 = omega (arith, low.0, new.1, next) in
              inr (new.0, txn, new.2, (λ i. record { session = same i; number = number i }), has)
        ]

reads_still : (parts : Parts) (f : Fragment) (reader : TxnId) (key : ℕ) (source : Source) → f.session < length parts.remain → Reads (remaining_at parts) reader key source → Reads (remaining_at (parts_with parts f)) reader key source
reads_still parts f reader key source within reads = elim (cases_eq reader.session f.session) [
  | inl same ↦ here same (some_and_of (remaining_at parts reader) (λ txn. Contains txn.reads (key, source)) reads)
  | inr other ↦ subst (λ txns. IsSomeAnd (found (mark_of parts reader.session) txns reader.number) (λ txn. Contains txn.reads (key, source))) (sym (session_other parts f reader.session other)) reads
]
  where
    here : reader.session ≡ f.session → ((txn : Txn) × (remaining_at parts reader ≡ Some txn) × Contains txn.reads (key, source)) → Reads (remaining_at (parts_with parts f)) reader key source
    here same (txn, at, has) =
        let mark = mark_of parts f.session in
        let before = remaining_of parts f.session in
        let there : found mark before reader.number ≡ Some txn = subst (λ s. found (mark_of parts s) (remaining_of parts s) reader.number ≡ Some txn) same at in
        let low = found_low mark before reader.number txn there in
        let is : found mark (before ++ f.txns) reader.number ≡ Some txn = found_at mark (before ++ f.txns) reader.number txn low.0 (place_left before f.txns (reader.number - mark) txn low.1) in
        let is : found mark (remaining_of (parts_with parts f) f.session) reader.number ≡ Some txn = subst (λ txns. found mark txns reader.number ≡ Some txn) (sym (session_with parts f within)) is in
        some_and_from (remaining_at (parts_with parts f) reader) (λ (t : Txn). Contains t.reads (key, source)) txn (subst (λ s. found (mark_of parts s) (remaining_of (parts_with parts f) s) reader.number ≡ Some txn) (sym same) is) has

reads_new : (parts : Parts) (f : Fragment) (reader : TxnId) (key : ℕ) (source : Source) → f.session < length parts.remain → f.first ≡ received_count parts f.session → IsNewRead f reader key source → Reads (remaining_at (parts_with parts f)) reader key source
reads_new parts f reader key source within next (n, txn, at, is, has) =
    let mark = mark_of parts f.session in
    let before = remaining_of parts f.session in
    let high : mark ≤ f.first + n = omega (arith, next) in
    let place : f.first + n - mark ≡ length before + n = omega (arith, next) in
    let behind : slice_get (before ++ f.txns) (f.first + n - mark) ≡ Some txn = ap (slice_get (before ++ f.txns)) place ∙ at_behind before f.txns n ∙ at in
    let there : found mark (before ++ f.txns) (f.first + n) ≡ Some txn = found_at mark (before ++ f.txns) (f.first + n) txn high behind in
    let there : remaining_at (parts_with parts f) (id_in f n) ≡ Some txn = subst (λ txns. found mark txns (f.first + n) ≡ Some txn) (sym (session_with parts f within)) there in
    subst (λ id. Reads (remaining_at (parts_with parts f)) id key source) (sym is) (some_and_from (remaining_at (parts_with parts f) (id_in f n)) (λ (t : Txn). Contains t.reads (key, source)) txn there has)

-- the index

one_or_not : (s first count : ℕ) (id : TxnId) → IsOneOf s first count id ⊎ (¬ IsOneOf s first count id)
one_or_not s first count id = elim (cases_eq id.session s) [
  | inl same ↦ elim (cases_lt id.number first) [
    | inl low ↦ inr (λ one. omega (arith, low, one.low))
    | inr low ↦ elim (cases_lt id.number (first + count)) [
      | inl high ↦ inl (record { session = same; low = low; high = high })
      | inr high ↦ inr (λ one. omega (arith, high, one.high))
    ]
  ]
  | inr other ↦ inr (λ one. other one.session)
]

-- the reads of a fragment that wait are new to the index
pub awaited_new : (marks : List SessionMark) (parts : Parts) (index : Index) (f : Fragment) → IsIndexOf index parts → IsAdmitted parts f → AreNew index (awaited_from marks f.session f.first f.txns)
awaited_new marks parts index f is fits = record {
  new = λ k d within waits.
      let reads = awaited_from marks f.session f.first f.txns in
      let read = get_or reads k d in
      let one = from_sound marks f.session f.first f.txns read (k, within, get_or_default reads k read d within) in
      let pending = (is read.reader read.writer read.key).0 waits in
      let some = some_and_of (remaining_at parts read.reader) (λ (txn : Txn). Contains txn.reads (read.key, By read.writer)) pending.0 in
      let received = remains_received parts read.reader some.0 some.1 in
      let here = subst (λ (id : TxnId). id.number < received_count parts id.session) one.reader received in
      omega (arith, here, fits.next.next);
  once = awaited_once marks f.session f.first f.txns (λ n txn at. (fits.well_formed.txns n txn (slice_get_within f.txns n txn at) at).lists.reads_rise);
}

-- the index has the pending reads of the parts with the fragment
pub index_with : (marks : List SessionMark) (parts : Parts) (old mid new : Index) (f : Fragment) → AreMarksOf marks parts → IsIndexOf old parts → IsAdmitted parts f → WaitsAlso old mid (awaited_from marks f.session f.first f.txns) → HaveArrived mid new f.session f.first (length f.txns) → IsIndexOf new (parts_with parts f)
index_with marks parts old mid new f are is fits also come = λ reader writer key. (waits_pending reader writer key, pending_waits reader writer key)
  where
    within : f.session < length parts.remain
    within = fits.next.session.0

    next : f.first ≡ received_count parts f.session
    next = fits.next.next

    marked : (id : TxnId) → IsReceived parts id → IsMarked marks id
    marked id received = omega (arith, received, are.received id.session)

    unmarked : (id : TxnId) → IsMarked marks id → IsReceived parts id
    unmarked id received = omega (arith, received, are.received id.session)

    still_waits : (reader writer : TxnId) (key : ℕ) → (¬ IsOneOf f.session f.first (length f.txns) writer) → (¬ IsReceived parts writer) → IsReceived (parts_with parts f) writer → ⊥
    still_waits reader writer key not_one not_before received = elim (received_with parts f writer within next received) [ inl before ↦ not_before before | inr one ↦ not_one one ]

    of_mid : (reader writer : TxnId) (key : ℕ) → (¬ IsOneOf f.session f.first (length f.txns) writer) → (Waits old reader key writer ⊎ Contains (awaited_from marks f.session f.first f.txns) (record { reader = reader; key = key; writer = writer })) → IsPendingRead (parts_with parts f) reader key writer
    of_mid reader writer key not_one (inl waited) =
        let pending = (is reader writer key).0 waited in
        (reads_still parts f reader key (By writer) within pending.0, still_waits reader writer key not_one pending.1)
    of_mid reader writer key not_one (inr there) =
        let one = from_sound marks f.session f.first f.txns (record { reader = reader; key = key; writer = writer }) there in
        (reads_new parts f reader key (By writer) within next (one.place, one.txn, one.at, one.reader, one.reads), still_waits reader writer key not_one (λ received. one.waits (marked writer received)))

    waits_pending : (reader writer : TxnId) (key : ℕ) → Waits new reader key writer → IsPendingRead (parts_with parts f) reader key writer
    waits_pending reader writer key waits = elim (one_or_not f.session f.first (length f.txns) writer) [
      | inl one ↦ let none = subst (λ reads. Contains reads (reader, key)) (come.arrived writer one) waits in absurd (omega (arith, none.1))
      | inr not_one ↦ of_mid reader writer key not_one ((also reader writer key).0 (subst (λ reads. Contains reads (reader, key)) (come.others writer not_one) waits))
    ]

    in_mid : (reader writer : TxnId) (key : ℕ) → (¬ IsReceived parts writer) → (Reads (remaining_at parts) reader key (By writer) ⊎ IsNewRead f reader key (By writer)) → Waits mid reader key writer
    in_mid reader writer key waits (inl before) = (also reader writer key).1 (inl ((is reader writer key).1 (before, waits)))
    in_mid reader writer key waits (inr (n, txn, at, same, has)) =
        let there = from_complete marks f.session f.first f.txns n txn key writer at has (λ received. waits (unmarked writer received)) in
        (also reader writer key).1 (inr (subst (λ id. Contains (awaited_from marks f.session f.first f.txns) (record { reader = id; key = key; writer = writer })) (sym same) there))

    pending_waits : (reader writer : TxnId) (key : ℕ) → IsPendingRead (parts_with parts f) reader key writer → Waits new reader key writer
    pending_waits reader writer key pending =
        let not_one : ¬ IsOneOf f.session f.first (length f.txns) writer = λ one. pending.1 (one_received parts f writer within next one) in
        let not_before : ¬ IsReceived parts writer = λ received. pending.1 (received_still parts f writer within next received) in
        subst (λ reads. Contains reads (reader, key)) (sym (come.others writer not_one)) (in_mid reader writer key not_before (reads_with parts f reader key (By writer) within next pending.0))

-- an index in which the same reads wait has the pending reads too
pub index_as_before : (parts : Parts) (old new : Index) → IsIndexOf old parts → WaitsAsBefore old new → IsIndexOf new parts
index_as_before parts old new is same = λ reader writer key. (
  λ waits. (is reader writer key).0 (subst (λ reads. Contains reads (reader, key)) (same writer) waits),
  λ pending. subst (λ reads. Contains reads (reader, key)) (sym (same writer)) ((is reader writer key).1 pending),
)

-- some read waits in the index exactly where the parts have a pending read
pub any_pending : (parts : Parts) (index : Index) → IsIndexOf index parts → HasWaiting index ↔ HasPending parts
any_pending parts index is = (
  λ h. let pending = (is h.0 h.1 h.2).0 h.3 in (h.0, h.1, h.2, pending.0, pending.1),
  λ h. (h.0, h.1, h.2, (is h.0 h.1 h.2).1 (h.3, h.4)),
)
