-- For private clauses: what is looked up of transactions, as some are added.
use Rattle.std.specs.Prelude.{◌≡◌, ◌<◌, ◌≤◌, ℕ, true, List, Contains}
use Rattle.std.specs.List.{AllPairs}
use Rattle.txn.specs.declared.transactions.TxnId.{TxnId}
use Rattle.txn.specs.declared.transactions.Source.{Source}
use Rattle.txn.specs.declared.transactions.Source.TheVariants.{By}
use Rattle.txn.specs.Transactions.{id_below}
use Rattle.order_check.specs.declared.remainder.Parts.{Parts}
use Rattle.order_check.specs.Based.{Remains}
use Rattle.order_check.specs.Known.{IsBaseSource, ReadsBase, WritesKey}
use Rattle.clock_choices.specs.declared.indexing.Index.{Index}
use Rattle.clock_choices.specs.declared.reads.Read.{Read}
use Rattle.clock_choices.specs.Adds.{Adds}
use Rattle.clock_choices.specs.Index.{AreReadsOf, AreRunsOf, IsInRuns, IsRead, TakesPart, reads_of, runs_of}
use Rattle.clock_choices.specs.Lists.{list_at}
use Rattle.clock_choices.specs.Writers.{AreRuns}

-- it is this read of the reader's, from a transaction, and the other takes part in it
abbrev pub IsReadFrom : TxnId → TxnId → ℕ × Source → Read → Type 0
IsReadFrom reader other one read = (read.reader ≡ reader) × (one ≡ (read.key, By read.writer)) × TakesPart other read

-- it is the reader, and this is a read of the key from the base
abbrev pub IsReadOfBase : Parts → TxnId → ℕ → ℕ × Source → TxnId → Type 0
IsReadOfBase parts reader key one other = (other ≡ reader) × (one.0 ≡ key) × IsBaseSource parts one.0 one.1

-- the transaction is of the session, and remains
abbrev pub IsOfSession : Parts → ℕ → TxnId → Type 0
IsOfSession parts session id = (id.session ≡ session) × Remains parts id

-- the transaction is of the session, and its number is from the one up to below the other
abbrev pub IsUpTo : ℕ → ℕ → ℕ → TxnId → Type 0
IsUpTo session from to id = (id.session ≡ session) × (from ≤ id.number) × (id.number < to)

-- they are in order of id
abbrev pub AreInOrder : List TxnId → Type 0
AreInOrder ids = AllPairs (λ a b. id_below a b ≡ true) ids

-- they are of sessions before this one
abbrev pub AreBefore : ℕ → List TxnId → Type 0
AreBefore session ids = (id : TxnId) → Contains ids id → id.session < session

-- such transactions are added, with what they write and read in the parts
pub record IsIndexWith (parts : Parts) (old new : Index) (Is : TxnId → Type 0) : Type 0 where
  pub writers : (key : ℕ) → Adds (IsInRuns (runs_of old.writers key)) (IsInRuns (runs_of new.writers key)) (λ other. Is other × WritesKey parts other key)
  pub reads : (other : TxnId) → Adds (Contains (reads_of old.reads.items other)) (Contains (reads_of new.reads.items other)) (λ read. Is read.reader × IsRead parts read × TakesPart other read)
  pub base : (key : ℕ) → Adds (Contains (list_at old.base key)) (Contains (list_at new.base key)) (λ other. Is other × ReadsBase parts other key)

-- they are those that read the key from the base, and no others
pub record AreBaseReaders (parts : Parts) (key : ℕ) (ids : List TxnId) : Type 0 where
  pub each : (id : TxnId) → Contains ids id → ReadsBase parts id key
  pub all : (id : TxnId) → ReadsBase parts id key → Contains ids id

-- all that is looked up of the parts
pub record IsIndex (parts : Parts) (index : Index) : Type 0 where
  pub runs : (key : ℕ) → AreRuns (runs_of index.writers key)
  pub writers : (key : ℕ) → AreRunsOf parts key (runs_of index.writers key)
  pub reads : (id : TxnId) → AreReadsOf parts id (reads_of index.reads.items id)
  pub base : (key : ℕ) → AreBaseReaders parts key (list_at index.base key)
