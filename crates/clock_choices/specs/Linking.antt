-- For private clauses: arcs that are there from the start, as they are added.
use Rattle.std.specs.Prelude.{◌≡◌, ◌≢◌, ◌⊎◌, ◌<◌, ◌≤◌, ℕ, List, [], ◌++◌, All, length, slice_index}
use Rattle.txn.specs.declared.transactions.TxnId.{TxnId}
use Rattle.txn.specs.declared.transactions.Source.{Source}
use Rattle.txn.specs.declared.transactions.Source.TheVariants.{By}
use Rattle.txn.specs.declared.choices.Arc.{Arc}
use Rattle.order_check.specs.declared.remainder.Parts.{Parts}
use Rattle.order_check.specs.Cycles.{IsArc}
use Rattle.order_check.specs.Based.{Remains}
use Rattle.order_check.specs.Known.{IsBaseSource, ReadsBase, ReadsKey, WritesKey}
use Rattle.session_clocks.specs.Graphs.{GraphState}
use Rattle.session_clocks.specs.Reach.{IsThere}
use Rattle.clock_choices.specs.declared.indexing.Index.{Index}
use Rattle.clock_choices.specs.declared.reads.Read.{Read}
use Rattle.clock_choices.specs.declared.runs.Run.{Run}
use Rattle.clock_choices.specs.Extending.{reached_in}
use Rattle.clock_choices.specs.Forcing.{IsGrowth}
use Rattle.clock_choices.specs.Index.{WriterRuns, runs_of}
use Rattle.clock_choices.specs.Lists.{list_at}
use Rattle.clock_choices.specs.Runs.{IsThird}

-- right arcs are added, and whoever reaches more by them, or is reached by more, is due
pub record Brings (parts : Parts) (old : GraphState) (due : List TxnId) (new : GraphState) (then : List TxnId) : Type 0 where
  pub added : List Arc
  pub is : new.arcs ≡ old.arcs ++ added
  pub right : All (IsArc parts []) added
  pub growth : IsGrowth (reached_in old) due (reached_in new) then

-- a read from a writer of its key has its arc
abbrev pub IsLinked : Parts → (TxnId → TxnId → Type 0) → Read → Type 0
IsLinked parts R read = WritesKey parts read.writer read.key → R read.writer read.reader

-- the reader of the base stands before each other writer of the key in the run
abbrev pub IsBeforeRun : (TxnId → TxnId → Type 0) → TxnId → Run → Type 0
IsBeforeRun R reader run = (other : TxnId) → IsThird run.session run.numbers.items reader reader other → R reader other

-- two of the numbers are below this one
pub record HasTwoBelow (numbers : List ℕ) (first : ℕ) : Type 0 where
  pub two : 2 ≤ length numbers
  pub order : slice_index numbers 0 < slice_index numbers 1
  pub below : slice_index numbers 1 < first

-- the readers of the base stand before the writers of the key in the run, if not two of these are below the number
abbrev pub AreRunLinked : (TxnId → TxnId → Type 0) → ℕ → List TxnId → Run → Type 0
AreRunLinked R first readers run = HasTwoBelow run.numbers.items first ⊎ All (λ reader. IsBeforeRun R reader run) readers

-- the same of a run of this session
abbrev pub IsSessionLinked : (TxnId → TxnId → Type 0) → ℕ → ℕ → List TxnId → Run → Type 0
IsSessionLinked R session first readers run = run.session ≡ session → AreRunLinked R first readers run

-- the same of what is looked up with a key
abbrev pub AreWritersLinked : (TxnId → TxnId → Type 0) → Index → ℕ → ℕ → ℕ → Type 0
AreWritersLinked R index session first key = All (IsSessionLinked R session first (list_at index.base key)) (runs_of index.writers key)

-- a reader of the base stands before the other writers of the key
abbrev pub IsBaseLinked : Parts → (TxnId → TxnId → Type 0) → WriterRuns → TxnId → ℕ × Source → Type 0
IsBaseLinked parts R writers reader read = IsBaseSource parts read.0 read.1 → All (IsBeforeRun R reader) (runs_of writers read.0)

-- all that remains is there
pub record AreNodesOf (parts : Parts) (gone received : List ℕ) : Type 0 where
  pub sessions : length received ≡ length gone
  pub there : (id : TxnId) → Remains parts id → IsThere gone received id

-- two writers of the key stand below the number in the session
pub record HasEarlier (parts : Parts) (key session first : ℕ) : Type 0 where
  pub low : ℕ
  pub high : ℕ
  pub order : low < high
  pub below : high < first
  pub low_writes : WritesKey parts (record { session = session; number = low }) key
  pub high_writes : WritesKey parts (record { session = session; number = high }) key

-- The arcs of a transaction that were there from the start: of the reads in which it takes part, from it as a reader of the base, and to
-- it as a writer from other readers of the base, unless two earlier writers of the key stand in its session.
pub record IsTxnLinked (parts : Parts) (R : TxnId → TxnId → Type 0) (first : ℕ) (id : TxnId) : Type 0 where
  pub reads : (reader writer : TxnId) (key : ℕ) → (reader ≡ id) ⊎ (writer ≡ id) → ReadsKey parts reader key (By writer) → WritesKey parts writer key → R writer reader
  pub base : (other : TxnId) (key : ℕ) → ReadsBase parts id key → WritesKey parts other key → other ≢ id → R id other
  pub writes : (reader : TxnId) (key : ℕ) → ReadsBase parts reader key → WritesKey parts id key → id ≢ reader → R reader id ⊎ HasEarlier parts key id.session first
