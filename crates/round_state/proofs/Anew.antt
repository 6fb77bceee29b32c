-- The index of pending reads, made anew from the parts, session after session.
use Rattle.std.proofs.Common.{◌≡◌, ℕ, ◌+◌, ◌-◌, ◌<◌, ◌≤◌, ◌⊎◌, inl, inr, sym, ap, subst, ◌∙◌, List, [], length, get_or, Some, arith}
use Rattle.std.specs.Prelude.{Contains, slice_get}
use Rattle.std.proofs.lemmas.Bool.{cases_lt}
use Rattle.std.proofs.lemmas.List.{get_or_default, get_or_past}
use Rattle.list_lemmas.proofs.Options.{some_and_of}
use Rattle.round_state.proofs.Keeping.{no_txn}
use Rattle.txn.specs.declared.transactions.TxnId.{TxnId}
use Rattle.txn.specs.declared.transactions.Source.TheVariants.{By}
use Rattle.txn.specs.declared.transactions.Txn.{Txn}
use Rattle.session_marks.specs.declared.marks.SessionMark.{SessionMark}
use Rattle.session_marks.specs.Marks.{IsReceived as IsMarked}
use Rattle.pending_reads.specs.declared.index.PendingRead.{PendingRead}
use Rattle.pending_reads.specs.Waiting.{Index, Waits, WaitsAlso, AreNew}
use Rattle.order_check.specs.declared.remainder.Parts.{Parts}
use Rattle.order_check.specs.Based.{mark_of, remaining_of, remaining_at, IsReceived}
use Rattle.order_check.specs.Good.{IsGood}
use Rattle.round_state.specs.Awaiting.{awaited_from}
use Rattle.round_state.specs.Tracked.{AreMarksOf, IsIndexOf, IsIndexBelow, IsPendingRead}
use Rattle.round_state.proofs.Awaited.{IsReadAt, from_sound, from_complete, awaited_once, id_of}
use Rattle.round_state.proofs.Indexed.{found, found_low, found_at, some_and_from}

-- what remains is of a session that is there
session_there : (parts : Parts) (id : TxnId) (txn : Txn) → remaining_at parts id ≡ Some txn → id.session < length parts.remain
session_there parts id txn at = elim (cases_lt id.session (length parts.remain)) [
  | inl within ↦ within
  | inr past ↦
      let low = found_low (mark_of parts id.session) (remaining_of parts id.session) id.number txn at in
      absurd (no_txn (remaining_of parts id.session) (id.number - mark_of parts id.session) txn (get_or_past parts.remain id.session [] past) low.1)
]

-- nothing waits of no session
pub below_none : (parts : Parts) → IsIndexBelow [] parts 0
below_none parts = λ reader writer key. (λ waits. absurd (omega (arith, waits.1)), λ pending. absurd (omega (arith, pending.0)))

-- and all that waits is of one of all sessions
pub below_all : (index : Index) (parts : Parts) (n : ℕ) → length parts.remain ≤ n → IsIndexBelow index parts n → IsIndexOf index parts
below_all index parts n e below = λ reader writer key. (
  λ waits. ((below reader writer key).0 waits).1,
  λ pending.
      let some = some_and_of (remaining_at parts reader) (λ (txn : Txn). Contains txn.reads (key, By writer)) pending.0 in
      let there = session_there parts reader some.0 some.1 in
      (below reader writer key).1 (omega (arith, there, e), pending),
)

-- what waits of one session more is new to the index
pub new_below : (marks : List SessionMark) (parts : Parts) (index : Index) (s : ℕ) (awaited : List PendingRead) → IsGood parts → awaited ≡ awaited_from marks s (mark_of parts s) (remaining_of parts s) → IsIndexBelow index parts s → AreNew index awaited
new_below marks parts index s awaited good e below = subst (λ reads. AreNew index reads) (sym e) (record {
  new = λ k d within waits.
      let reads = awaited_from marks s (mark_of parts s) (remaining_of parts s) in
      let read = get_or reads k d in
      let one = from_sound marks s (mark_of parts s) (remaining_of parts s) read (k, within, get_or_default reads k read d within) in
      let session : read.reader.session ≡ s = ap (λ (id : TxnId). id.session) one.reader in
      let before = ((below read.reader read.writer read.key).0 waits).0 in
      omega (arith, before, session);
  once = awaited_once marks s (mark_of parts s) (remaining_of parts s) (λ n txn at. (good.well_formed s n txn at).lists.reads_rise);
})

-- with it the index has the pending reads of one session more
pub below_more : (marks : List SessionMark) (parts : Parts) (old new : Index) (s : ℕ) (awaited : List PendingRead) → AreMarksOf marks parts → awaited ≡ awaited_from marks s (mark_of parts s) (remaining_of parts s) → IsIndexBelow old parts s → WaitsAlso old new awaited → IsIndexBelow new parts (s + 1)
below_more marks parts old new s awaited are e below also = λ reader writer key. (waits_pending reader writer key, pending_waits reader writer key)
  where
    reads : List PendingRead
    reads = awaited_from marks s (mark_of parts s) (remaining_of parts s)

    both : WaitsAlso old new reads
    both = subst (λ list. WaitsAlso old new list) e also

    read_of : TxnId → ℕ → TxnId → PendingRead
    read_of reader key writer = record { reader = reader; key = key; writer = writer }

    pending_of : (reader writer : TxnId) (key : ℕ) → IsReadAt marks s (mark_of parts s) (remaining_of parts s) (read_of reader key writer) → (reader.session < s + 1) × IsPendingRead parts reader key writer
    pending_of reader writer key one =
        let mark = mark_of parts s in
        let high : mark ≤ mark + one.place = omega arith in
        let place : mark + one.place - mark ≡ one.place = omega arith in
        let at : slice_get (remaining_of parts s) (mark + one.place - mark) ≡ Some one.txn = ap (slice_get (remaining_of parts s)) place ∙ one.at in
        let there : remaining_at parts (id_of s (mark + one.place)) ≡ Some one.txn = found_at mark (remaining_of parts s) (mark + one.place) one.txn high at in
        let there : remaining_at parts reader ≡ Some one.txn = ap (remaining_at parts) one.reader ∙ there in
        let session : reader.session ≡ s = ap (λ (id : TxnId). id.session) one.reader in (
          omega (arith, session),
          (
            some_and_from (remaining_at parts reader) (λ (txn : Txn). Contains txn.reads (key, By writer)) one.txn there one.reads,
            λ received. one.waits (omega (arith, received, are.received writer.session)),
          ),
        )

    of_both : (reader writer : TxnId) (key : ℕ) → (Waits old reader key writer ⊎ Contains reads (read_of reader key writer)) → (reader.session < s + 1) × IsPendingRead parts reader key writer
    of_both reader writer key (inl waited) = let pending = (below reader writer key).0 waited in (omega (arith, pending.0), pending.1)
    of_both reader writer key (inr there) = pending_of reader writer key (from_sound marks s (mark_of parts s) (remaining_of parts s) (read_of reader key writer) there)

    waits_pending : (reader writer : TxnId) (key : ℕ) → Waits new reader key writer → (reader.session < s + 1) × IsPendingRead parts reader key writer
    waits_pending reader writer key waits = of_both reader writer key ((both reader writer key).0 waits)

    unmarked : (id : TxnId) → IsMarked marks id → IsReceived parts id
    unmarked id received = omega (arith, received, are.received id.session)

    here : (reader writer : TxnId) (key : ℕ) → reader.session ≡ s → IsPendingRead parts reader key writer → Contains reads (read_of reader key writer)
    here reader writer key same pending =
        let mark = mark_of parts s in
        let (txn, at, has) = some_and_of (remaining_at parts reader) (λ (txn : Txn). Contains txn.reads (key, By writer)) pending.0 in
        let there : found mark (remaining_of parts s) reader.number ≡ Some txn = subst (λ t. found (mark_of parts t) (remaining_of parts t) reader.number ≡ Some txn) same at in
        let low = found_low mark (remaining_of parts s) reader.number txn there in
        let number : mark + (reader.number - mark) ≡ reader.number = omega (arith, low.0) in
        let is : id_of s (mark + (reader.number - mark)) ≡ reader = λ i. record { session = sym same i; number = number i } in
        let one = from_complete marks s mark (remaining_of parts s) (reader.number - mark) txn key writer low.1 has (λ received. pending.1 (unmarked writer received)) in
        subst (λ id. Contains reads (read_of id key writer)) is one

    pending_waits : (reader writer : TxnId) (key : ℕ) → (reader.session < s + 1) × IsPendingRead parts reader key writer → Waits new reader key writer
    pending_waits reader writer key pending = elim (cases_lt reader.session s) [
      | inl low ↦ (both reader writer key).1 (inl ((below reader writer key).1 (low, pending.1)))
      | inr high ↦ let same : reader.session ≡ s = omega (arith, high, pending.0) in (both reader writer key).1 (inr (here reader writer key same pending.1))
    ]
