-- What a settled fence meets, and what the tests of its lines say together.
use Rattle.std.proofs.Common.{◌≡◌, ◌≢◌, ℕ, ◌<◌, ◌⊎◌, Bool, true, false, List, length, get_or, refl, inl, inr, Option, Some, None, IsSome}
use Rattle.std.specs.Prelude.{◌↔◌, All, Contains, IsSomeAnd, slice_get}
use Rattle.std.proofs.lemmas.List.Elements.{All-contains, Contains-get_or}
use Rattle.list_lemmas.proofs.Members.{none_in_none}
use Rattle.txn.specs.declared.transactions.TxnId.{TxnId}
use Rattle.txn.specs.declared.transactions.Txn.{Txn}
use Rattle.txn.specs.declared.transactions.Source.{Source}
use Rattle.txn.specs.declared.transactions.Source.TheVariants.{Init, By}
use Rattle.txn.specs.Transactions.{IsFence}
use Rattle.txn.specs.History.{reads_in}
use Rattle.order_check.specs.declared.remainder.Parts.{Parts}
use Rattle.order_check.specs.Based.{Remains, IsReceived, remaining_at}
use Rattle.order_check.specs.Known.{ReadsKey}
use Rattle.order_check.specs.Settled.{InFront, IsPast, IsSettled}
use Rattle.order_check.specs.StandsFor.{IsOpenSession}
use Rattle.fence_chain.specs.Chains.{IsRemainingFence}
use Rattle.settle.specs.Lines.{ArePast, HasReceivedReads, IsClosedOrPast, IsOrderedFence, IsReceivedSource}
use Rattle.settle.specs.Writers.{HaveLastWriters}

-- a fence that is settled with the sessions that are open
abbrev pub IsSettledNow : Parts → TxnId → Type 0
IsSettledNow parts fence = IsSettled parts (IsOpenSession parts) fence

pub fence_remains : (parts : Parts) (id : TxnId) → IsRemainingFence parts id → Remains parts id
fence_remains parts id h = by_found (remaining_at parts id) h
  where
    by_found : (found : Option Txn) → IsSomeAnd found IsFence → IsSome found
    by_found None h = absurd h
    by_found (Some txn) h = refl

closed_or_not : (flag : Option Bool) → (flag ≡ Some true) ⊎ (flag ≢ Some true)
closed_or_not None = inr (λ e. cc)
closed_or_not (Some true) = inl refl
closed_or_not (Some false) = inr (λ e. cc)

pub settled_past : (parts : Parts) (fence : TxnId) → IsSettledNow parts fence → ArePast parts fence
settled_past parts fence settled s within = by_flag (closed_or_not (slice_get parts.closed s))
  where
    by_flag : (slice_get parts.closed s ≡ Some true) ⊎ (slice_get parts.closed s ≢ Some true) → IsClosedOrPast parts fence s
    by_flag (inl closed) = inl closed
    by_flag (inr live) = inr (settled.past s within (within, live))

pub past_open : (parts : Parts) (fence : TxnId) → ArePast parts fence → (s : ℕ) → s < length parts.remain → IsOpenSession parts s → IsPast parts fence s
past_open parts fence past s within live = by_case (past s within)
  where
    by_case : IsClosedOrPast parts fence s → IsPast parts fence s
    by_case (inl closed) = absurd (live.1 closed)
    by_case (inr h) = h

reads_there : (parts : Parts) (id : TxnId) (read : ℕ × Source) → Contains (reads_in (remaining_at parts id)) read → ReadsKey parts id read.0 read.1
reads_there parts id read h = by_found (remaining_at parts id) h
  where
    by_found : (found : Option Txn) → Contains (reads_in found) read → IsSomeAnd found (λ txn. Contains txn.reads (read.0, read.1))
    by_found None h = absurd (none_in_none read h)
    by_found (Some txn) h = h

there_reads : (parts : Parts) (id : TxnId) (key : ℕ) (source : Source) → ReadsKey parts id key source → Contains (reads_in (remaining_at parts id)) (key, source)
there_reads parts id key source h = by_found (remaining_at parts id) h
  where
    by_found : (found : Option Txn) → IsSomeAnd found (λ txn. Contains txn.reads (key, source)) → Contains (reads_in found) (key, source)
    by_found None h = absurd h
    by_found (Some txn) h = h

pub settled_received : (parts : Parts) (fence : TxnId) (front : List TxnId) → ((id : TxnId) → Contains front id ↔ InFront parts fence id) → IsSettledNow parts fence → All (HasReceivedReads parts) front
settled_received parts fence front in_front settled k d within = reads (get_or front k d) ((in_front (get_or front k d)).0 (Contains-get_or front k d within))
  where
    reads : (id : TxnId) → InFront parts fence id → HasReceivedReads parts id
    reads id there n e under = by_source (get_or (reads_in (remaining_at parts id)) n e) (reads_there parts id (get_or (reads_in (remaining_at parts id)) n e) (Contains-get_or (reads_in (remaining_at parts id)) n e under))
      where
        by_source : (read : ℕ × Source) → ReadsKey parts id read.0 read.1 → IsReceivedSource parts read.1
        by_source (key, Init) h = tt
        by_source (key, By writer) h = settled.nothing_pending id writer key there h

pub received_all : (parts : Parts) (fence : TxnId) (front : List TxnId) → ((id : TxnId) → Contains front id ↔ InFront parts fence id) → All (HasReceivedReads parts) front → (id writer : TxnId) (key : ℕ) → InFront parts fence id → ReadsKey parts id key (By writer) → IsReceived parts writer
received_all parts fence front in_front received id writer key there reads =
    All-contains (λ read. IsReceivedSource parts read.1) (reads_in (remaining_at parts id)) (key, By writer) (All-contains (HasReceivedReads parts) front id received ((in_front id).1 there)) (there_reads parts id key (By writer) reads)

pub is_settled : (parts : Parts) (fence : TxnId) (front : List TxnId) → IsOrderedFence parts fence → ((id : TxnId) → Contains front id ↔ InFront parts fence id) → ArePast parts fence → All (HasReceivedReads parts) front → HaveLastWriters parts fence → IsSettledNow parts fence
is_settled parts fence front is in_front past received have = record {
  remains = is.remains;
  ordered = is.ordered;
  past = past_open parts fence past;
  nothing_pending = received_all parts fence front in_front received;
  last_writers = have;
}
