-- For private clauses: the choices that a relation leaves open, all of them and the first.
use Rattle.std.specs.Prelude.{◌≡◌, ◌≢◌, ◌↔◌, ⊤, ℕ, true, List, Contains, map, take}
use Rattle.std.specs.List.{AllPairs}
use Rattle.txn.specs.declared.transactions.TxnId.{TxnId}
use Rattle.txn.specs.declared.transactions.Source.{Source}
use Rattle.txn.specs.declared.transactions.Source.TheVariants.{By}
use Rattle.txn.specs.declared.choices.Choice.{Choice}
use Rattle.txn.specs.Choices.{choice_below}
use Rattle.order_check.specs.declared.remainder.Parts.{Parts}
use Rattle.order_check.specs.Good.{IsGood}
use Rattle.order_check.specs.Known.{IsChoice, ReadsKey, WritesKey}
use Rattle.session_clocks.specs.Graphs.{GraphState}
use Rattle.clock_choices.specs.declared.indexing.Index.{Index}
use Rattle.clock_choices.specs.declared.reads.Read.{Read}
use Rattle.clock_choices.specs.declared.runs.Run.{Run}
use Rattle.clock_choices.specs.Adds.{Among}
use Rattle.clock_choices.specs.Extending.{reached_in}
use Rattle.clock_choices.specs.Forcing.{choice_of}
use Rattle.clock_choices.specs.Indexing.{IsIndex}
use Rattle.clock_choices.specs.Linking.{AreNodesOf}
use Rattle.clock_choices.specs.Runs.{IsThird}
use Rattle.clock_choices.specs.Spans.{IsUndecided}

-- the read of a choice
abbrev pub read_of : Choice → Read
read_of choice = record { reader = choice.reader; key = choice.key; writer = choice.writer }

-- the relation has neither side of the choice, nor rules one out
pub record IsOpenIn (parts : Parts) (R : TxnId → TxnId → Type 0) (choice : Choice) : Type 0 where
  pub choice_of : IsChoice parts choice
  pub undecided : IsUndecided R (read_of choice) choice.other

-- none such is open
abbrev pub NoneOpen : Parts → (TxnId → TxnId → Type 0) → (Choice → Type 0) → Type 0
NoneOpen parts R Is = (choice : Choice) → IsOpenIn parts R choice → ¬ Is choice

-- the first of those that are open and such
pub record IsFirstOf (parts : Parts) (R : TxnId → TxnId → Type 0) (Is : Choice → Type 0) (choice : Choice) : Type 0 where
  pub is_open : IsOpenIn parts R choice
  pub such : Is choice
  pub first : (other : Choice) → IsOpenIn parts R other → Is other → other ≢ choice → choice_below choice other ≡ true

-- all that are open and such, in order
pub record AreOpenOf (parts : Parts) (R : TxnId → TxnId → Type 0) (Is : Choice → Type 0) (choices : List Choice) : Type 0 where
  pub rise : AllPairs (λ a b. choice_below a b ≡ true) choices
  pub each : (choice : Choice) → Contains choices choice → IsOpenIn parts R choice × Is choice
  pub all : (choice : Choice) → IsOpenIn parts R choice → Is choice → Contains choices choice

-- the choices of a read with a session's writers
abbrev pub choices_at : Read → ℕ → List ℕ → List Choice
choices_at read session numbers = map (λ number. choice_of read (record { session = session; number = number })) numbers

-- it is one of a read with a writer of the run's session
abbrev pub IsOfRun : Read → Run → Choice → Type 0
IsOfRun read run choice = (read_of choice ≡ read) × (choice.other.session ≡ run.session)

-- it is one of a read that the reader makes
abbrev pub IsOfSource : TxnId → ℕ × Source → Choice → Type 0
IsOfSource reader one choice = (choice.reader ≡ reader) × (one ≡ (choice.key, By choice.writer))

-- it is the reader's
abbrev pub IsOfReader : TxnId → Choice → Type 0
IsOfReader reader choice = choice.reader ≡ reader

-- with the session's writers those in the run make choices of the read, and no others
abbrev pub IsRunOfRead : Parts → Read → Run → Type 0
IsRunOfRead parts read run = (other : TxnId) → other.session ≡ run.session → IsChoice parts (choice_of read other) ↔ IsThird run.session run.numbers.items read.reader read.writer other

-- What is looked up is of the parts, all that remains has its node in the graph, and each read from a writer of its key its arc there.
pub record IsAsked (parts : Parts) (known : Index) (graph : GraphState) : Type 0 where
  pub good : IsGood parts
  pub index : IsIndex parts known
  pub nodes : AreNodesOf parts graph.gone graph.received
  pub reads : (reader writer : TxnId) (key : ℕ) → ReadsKey parts reader key (By writer) → WritesKey parts writer key → reached_in graph writer reader

-- none of the first so many has an open choice
abbrev pub ArePassed : Parts → (TxnId → TxnId → Type 0) → List TxnId → ℕ → Type 0
ArePassed parts R ids n = NoneOpen parts R (Among IsOfReader (take n ids))

-- the first of the open choices
abbrev pub IsFirstIn : Parts → (TxnId → TxnId → Type 0) → Choice → Type 0
IsFirstIn parts R choice = IsFirstOf parts R (λ other. ⊤) choice
