-- For private clauses: who writes each key, and who reads which key from whom.
use Rattle.std.specs.Prelude.{◌≡◌, ◌⊎◌, ◌<◌, ℕ, zero, suc, List, [], ◌∷◌, Vec, All, Contains, length}
use Rattle.std.specs.declared.alloc.Global.{Global}
use Rattle.std.specs.BTreeMap.{BTreeMap}
use Rattle.txn.specs.declared.transactions.TxnId.{TxnId}
use Rattle.txn.specs.declared.transactions.Source.TheVariants.{By}
use Rattle.order_check.specs.declared.remainder.Parts.{Parts}
use Rattle.order_check.specs.Known.{ReadsKey, WritesKey}
use Rattle.session_clocks.specs.Reach.{IsThere}
use Rattle.clock_choices.specs.declared.reads.Read.{Read}
use Rattle.clock_choices.specs.declared.runs.Run.{Run}
use Rattle.clock_choices.specs.Lists.{list_at}
use Rattle.clock_choices.specs.Runs.{Climbs}

-- the sessions' writers of each key
abbrev pub WriterRuns : Type 0
WriterRuns = BTreeMap ℕ (Vec Run Global)

-- those of a key, none where nobody writes it
abbrev pub runs_of : WriterRuns → ℕ → List Run
runs_of writers key = list_at writers key

-- the transaction's number is in a run of its session
abbrev pub IsInRuns : List Run → TxnId → Type 0
IsInRuns runs id = (run : Run) × Contains runs run × (run.session ≡ id.session) × Contains run.numbers.items id.number

-- the run is of one of the sessions, its numbers climb, and their transactions are there
pub record IsRunThere (gone received : List ℕ) (run : Run) : Type 0 where
  pub session : run.session < length gone
  pub climbs : Climbs run.numbers.items
  pub there : (number : ℕ) → Contains run.numbers.items number → IsThere gone received (record { session = run.session; number = number })

-- they are all writers of the key, and no others
pub record AreRunsOf (parts : Parts) (key : ℕ) (runs : List Run) : Type 0 where
  pub each : (id : TxnId) → IsInRuns runs id → WritesKey parts id key
  pub all : (id : TxnId) → WritesKey parts id key → IsInRuns runs id

-- for each session, by the numbers of its transactions, the reads in which each takes part
abbrev pub ReadLists : Type 0
ReadLists = List (BTreeMap ℕ (Vec Read Global))

abbrev pub reads_in : BTreeMap ℕ (Vec Read Global) → ℕ → List Read
reads_in numbers number = list_at numbers number

-- those of a session's transaction, none past the last session
abbrev pub reads_at : ReadLists → ℕ → ℕ → List Read
reads_at [] session number = []
reads_at (numbers ∷ lists) zero number = reads_in numbers number
reads_at (numbers ∷ lists) (suc session) number = reads_at lists session number

abbrev pub reads_of : ReadLists → TxnId → List Read
reads_of lists id = reads_at lists id.session id.number

-- the transaction reads the key from the writer
abbrev pub IsRead : Parts → Read → Type 0
IsRead parts read = ReadsKey parts read.reader read.key (By read.writer)

-- the transaction reads, or is read from
abbrev pub TakesPart : TxnId → Read → Type 0
TakesPart id read = (read.reader ≡ id) ⊎ (read.writer ≡ id)

-- all reads in which the transaction takes part, and no others
pub record AreReadsOf (parts : Parts) (id : TxnId) (reads : List Read) : Type 0 where
  pub each : All (IsRead parts) reads
  pub all : (read : Read) → IsRead parts read → TakesPart id read → Contains reads read
