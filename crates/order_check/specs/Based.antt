-- Histories of which a part is gone: what is gone, what remains, and what was received.
use Rattle.std.specs.Prelude.{◌≡◌, ℕ, ◌+◌, ◌-◌, ◌<◌, List, [], ◌∷◌, length, slice_get, slice_index, Some, None, Option, IsSome, nat_lt, if◌then◌else◌}
use Rattle.std.specs.FinMap.{get}
use Rattle.txn.specs.declared.transactions.TxnId.{TxnId}
use Rattle.txn.specs.declared.transactions.Txn.{Txn}
use Rattle.txn.specs.History.{session_of, ids_from, HasPendingRead}
use Rattle.order_check.specs.declared.remainder.Parts.{Parts}

-- how many transactions of a session are gone
abbrev pub mark_of : Parts → ℕ → ℕ
mark_of parts s = slice_index parts.base.marks s

-- what remains of a session
abbrev pub remaining_of : Parts → ℕ → List Txn
remaining_of parts s = session_of parts.remain s

-- how many transactions of a session were received
abbrev pub received_count : Parts → ℕ → ℕ
received_count parts s = mark_of parts s + length (remaining_of parts s)

-- how many were received, session by session
abbrev pub received_counts : Parts → List ℕ
received_counts parts = counts_from parts.base.marks parts.remain
  where
    counts_from : List ℕ → List (List Txn) → List ℕ
    counts_from (mark ∷ marks) (txns ∷ remain) = (mark + length txns) ∷ counts_from marks remain
    counts_from marks remain = []

abbrev pub IsGone : Parts → TxnId → Type 0
IsGone parts id = id.number < mark_of parts id.session

-- the transaction that has an id, where it remains
abbrev pub remaining_at : Parts → TxnId → Option Txn
remaining_at parts id =
    if nat_lt id.number (mark_of parts id.session)
    then None
    else slice_get (remaining_of parts id.session) (id.number - mark_of parts id.session)

abbrev pub Remains : Parts → TxnId → Type 0
Remains parts id = IsSome (remaining_at parts id)

-- an id is received where it is gone or remains
abbrev pub IsReceived : Parts → TxnId → Type 0
IsReceived parts id = id.number < received_count parts id.session

-- the last gone writer of a key
abbrev pub last_gone : Parts → ℕ → Option TxnId
last_gone parts key = get parts.base.last key

-- each last gone writer is gone
abbrev pub HasGoneBase : Parts → Type 0
HasGoneBase parts = (key : ℕ) (writer : TxnId) → last_gone parts key ≡ Some writer → IsGone parts writer

-- the ids of a session that remain, in order of number
abbrev pub remaining_ids : Parts → ℕ → List TxnId
remaining_ids parts s = ids_from s (mark_of parts s) (remaining_of parts s)

-- some read of what remains waits for an id that isn't received
abbrev pub HasPending : Parts → Type 0
HasPending parts = HasPendingRead (remaining_at parts) (IsReceived parts)
