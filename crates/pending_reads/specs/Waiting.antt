-- Reads that wait for the transaction that they read from.
use Rattle.std.specs.Prelude.{◌≡◌, ◌≢◌, ℕ, ◌-◌, ◌↔◌, ◌⊎◌, List, [], ◌∷◌, ◌++◌, length, take, All, Some, Contains, unwrap_or, if◌then◌else◌}
use Rattle.std.specs.List.{AllPairs, Any}
use Rattle.std.specs.Map.{lookup}
use Rattle.txn.specs.declared.transactions.TxnId.{TxnId}
use Rattle.txn.specs.Transactions.{same_id}
use Rattle.pending_reads.specs.declared.index.PendingRead.{PendingRead}

-- for each awaited transaction the reads that wait for it, as their readers and keys
abbrev pub Index : Type 0
Index = List (TxnId × List (TxnId × ℕ))

-- the reads that wait for a transaction
abbrev pub waiting_for : Index → TxnId → List (TxnId × ℕ)
waiting_for index writer = unwrap_or (lookup (same_id writer) index) []

-- the reader's read of the key waits for the writer
abbrev pub Waits : Index → TxnId → ℕ → TxnId → Type 0
Waits index reader key writer = Contains (waiting_for index writer) (reader, key)

-- some read waits
abbrev pub HasWaiting : Index → Type 0
HasWaiting index = (reader writer : TxnId) × (key : ℕ) × Waits index reader key writer

-- some read of one of these transactions waits
abbrev pub HasWaitingIn : Index → List TxnId → Type 0
HasWaitingIn index readers = (reader writer : TxnId) × (key : ℕ) × Contains readers reader × Waits index reader key writer

-- Now these reads wait for the writer, and for every other transaction the same as before.
pub record ChangesOnly (old new : Index) (writer : TxnId) (reads : List (TxnId × ℕ)) : Type 0 where
  pub changed : waiting_for new writer ≡ reads
  pub others : (other : TxnId) → other ≢ writer → waiting_for new other ≡ waiting_for old other

-- of these reads, those that wait for the writer, as their readers and keys
abbrev pub waiting_among : List PendingRead → TxnId → List (TxnId × ℕ)
waiting_among [] writer = []
waiting_among (read ∷ more) writer = if same_id read.writer writer then (read.reader, read.key) ∷ waiting_among more writer else waiting_among more writer

-- Now these reads wait too, each behind those that waited before.
abbrev pub HasAlso : Index → Index → List PendingRead → Type 0
HasAlso old new reads = (writer : TxnId) → waiting_for new writer ≡ waiting_for old writer ++ waiting_among reads writer

-- A read waits now exactly where it waited before or is one of these.
abbrev pub WaitsAlso : Index → Index → List PendingRead → Type 0
WaitsAlso old new reads = (reader writer : TxnId) (key : ℕ) → Waits new reader key writer ↔ (Waits old reader key writer ⊎ Contains reads (record { reader = reader; key = key; writer = writer }))

-- the same reads wait, in the same order
abbrev pub WaitsAsBefore : Index → Index → Type 0
WaitsAsBefore old new = (writer : TxnId) → waiting_for new writer ≡ waiting_for old writer

-- none of these reads waits yet, and none stands twice
pub record AreNew (index : Index) (reads : List PendingRead) : Type 0 where
  pub new : All (λ read. ¬ Waits index read.reader read.key read.writer) reads
  pub once : AllPairs (λ earlier later. earlier ≢ later) reads

-- a list without its last element
abbrev pub all_but_last : {X : Type 0} → List X → List X
all_but_last xs = take (length xs - 1) xs

-- no read stands twice
abbrev pub AreDistinct : List (TxnId × ℕ) → Type 0
AreDistinct reads = AllPairs (λ earlier later. earlier ≢ later) reads

-- each awaited transaction has reads that wait for it, each once
abbrev pub IsKept : Index → Type 0
IsKept index = (writer : TxnId) (reads : List (TxnId × ℕ)) → lookup (same_id writer) index ≡ Some reads → (reads ≢ []) × AreDistinct reads

-- one of the reads is of one of these transactions
abbrev pub HasReader : List (TxnId × ℕ) → List TxnId → Type 0
HasReader reads readers = Any (λ read. Contains readers read.0) reads
