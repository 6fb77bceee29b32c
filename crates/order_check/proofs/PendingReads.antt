-- When some read of what remains waits.
use Rattle.std.proofs.Common.{◌≡◌, ℕ, ◌-◌, [], length, Some, Any, Contains, refl, sym}
use Rattle.std.specs.List.{slice_get}
use Rattle.std.proofs.lemmas.Option.{slice_get_within, get_or_from_slice_get, slice_get_read}
use Rattle.std.proofs.lemmas.List.{get_or_default}
use Rattle.list_lemmas.proofs.Options.{some_and_of}
use Rattle.txn.specs.declared.transactions.TxnId.{TxnId}
use Rattle.txn.specs.declared.transactions.Source.{Source}
use Rattle.txn.specs.declared.transactions.Source.TheVariants.{Init, By}
use Rattle.txn.specs.declared.transactions.Txn.{Txn}
use Rattle.txn.specs.History.{Reads}
use Rattle.order_check.specs.declared.remainder.Parts.{Parts}
use Rattle.order_check.specs.Based.{mark_of, remaining_of, remaining_at, HasPending}
use Rattle.order_check.specs.Waiting.{IsAwaited, Waits, SomeWaits}
use Rattle.order_check.proofs.Remaining.{remaining_place, remaining_from_place, session_at, session_within}

-- a read of a transaction that remains
read_of : (parts : Parts) (id : TxnId) (key : ℕ) (source : Source) (txn : Txn) → remaining_at parts id ≡ Some txn → Contains txn.reads (key, source) → Reads (remaining_at parts) id key source
read_of parts id key source txn e has = rw e has

-- a read that waits makes the parts pending
pending_from_read : (parts : Parts) (id : TxnId) (txn : Txn) (key : ℕ) (source : Source) → remaining_at parts id ≡ Some txn → Contains txn.reads (key, source) → IsAwaited parts source → HasPending parts
pending_from_read parts id txn key Init e has awaited = absurd awaited
pending_from_read parts id txn key (By writer) e has awaited = (id, writer, key, read_of parts id key (By writer) txn e has, awaited)

pub pending_from_waits : (parts : Parts) → Any (SomeWaits parts) parts.remain → HasPending parts
pending_from_waits parts (s, txns, within, is, (n, txn, n-within, n-is, (k, read, k-within, k-is, awaited))) =
    let session : remaining_of parts s ≡ txns = session_at parts.remain s txns within is in
    let at : slice_get (remaining_of parts s) n ≡ Some txn = rw session (slice_get_read txns (length txns) n txn refl n-within (sym n-is)) in
    pending_from_read parts (record { session = s; number = _ }) txn read.0 read.1 (remaining_from_place parts s n txn at) (k, k-within, k-is) awaited

pub waits_from_pending : (parts : Parts) → HasPending parts → Any (SomeWaits parts) parts.remain
waits_from_pending parts (reader, writer, key, reads, missing) =
    let found = some_and_of (remaining_at parts reader) (λ txn. Contains txn.reads (key, By writer)) reads in
    let place = remaining_place parts reader found.0 found.1 in
    let s = reader.session in
    let n = reader.number - mark_of parts s in
    let txns = remaining_of parts s in
    let waits : Waits parts found.0 = (found.2.0, (key, By writer), found.2.1, found.2.2, missing) in
    let some : SomeWaits parts txns = (n, found.0, slice_get_within txns n found.0 place.1, get_or_from_slice_get txns n found.0 found.0 place.1, waits) in
    (s, txns, session_within parts.remain s n found.0 place.1, get_or_default parts.remain s txns [] (session_within parts.remain s n found.0 place.1), some)
