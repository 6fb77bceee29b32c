-- What every order that explains good parts has to keep, and the choices that it leaves open.
use Rattle.std.specs.Prelude.{◌≡◌, ◌≢◌, ℕ, ◌<◌, List, Some, None, All, Contains}
use Rattle.txn.specs.declared.transactions.TxnId.{TxnId}
use Rattle.txn.specs.declared.transactions.Source.{Source}
use Rattle.txn.specs.declared.transactions.Source.TheVariants.{Init, By}
use Rattle.txn.specs.declared.choices.Choice.{Choice}
use Rattle.txn.specs.Transactions.{Rises}
use Rattle.txn.specs.Choices.{choice_below}
use Rattle.txn.specs.History.{Reads, Writes}
use Rattle.order_check.specs.declared.remainder.Parts.{Parts}
use Rattle.order_check.specs.Based.{Remains, remaining_at, last_gone}

-- a remaining transaction reads the key from the source
abbrev pub ReadsKey : Parts → TxnId → ℕ → Source → Type 0
ReadsKey parts id key source = Reads (remaining_at parts) id key source

-- a remaining transaction writes the key
abbrev pub WritesKey : Parts → TxnId → ℕ → Type 0
WritesKey parts id key = Writes (remaining_at parts) id key

-- a reader, the remaining writer that it reads the key from, and a remaining writer of the key that is neither
pub record IsChoice (parts : Parts) (choice : Choice) : Type 0 where
  pub reads : ReadsKey parts choice.reader choice.key (By choice.writer)
  pub written : WritesKey parts choice.writer choice.key
  pub other : WritesKey parts choice.other choice.key
  pub not_writer : choice.other ≢ choice.writer
  pub not_reader : choice.other ≢ choice.reader

-- what a read of the key has to name to be met by what is gone: the last gone writer, or the initial state where there is none
abbrev pub IsBaseSource : Parts → ℕ → Source → Type 0
IsBaseSource parts key Init = last_gone parts key ≡ None
IsBaseSource parts key (By writer) = last_gone parts key ≡ Some writer

-- a remaining transaction reads the key from the base
abbrev pub ReadsBase : Parts → TxnId → ℕ → Type 0
ReadsBase parts id key = (source : Source) × ReadsKey parts id key source × IsBaseSource parts key source

-- The least relation that has these arcs, and the ones taken, is transitive, and has what each choice forces.
pub data Known (parts : Parts) (taken : List (TxnId × TxnId)) : TxnId → TxnId → Type 0 where
  -- of two in one session, the lower number comes before the higher
  by_session : {a b : TxnId} → Remains parts a → Remains parts b → a.session ≡ b.session → a.number < b.number → Known parts taken a b
  -- a writer comes before who reads from it
  by_read : {reader writer : TxnId} (key : ℕ) → ReadsKey parts reader key (By writer) → WritesKey parts writer key → Known parts taken writer reader
  -- who reads a key from the base comes before every other writer of the key
  by_base : {reader other : TxnId} (key : ℕ) → ReadsBase parts reader key → WritesKey parts other key → other ≢ reader → Known parts taken reader other
  by_taken : {a b : TxnId} → Contains taken (a, b) → Known parts taken a b
  through : {a b c : TxnId} → Known parts taken a b → Known parts taken b c → Known parts taken a c
  -- where the other writer comes after the writer, it comes after the reader
  forces_after : (choice : Choice) → IsChoice parts choice → Known parts taken choice.writer choice.other → Known parts taken choice.reader choice.other
  -- where the other writer comes before the reader, it comes before the writer
  forces_before : (choice : Choice) → IsChoice parts choice → Known parts taken choice.other choice.reader → Known parts taken choice.other choice.writer

-- neither side of the choice is known, nor ruled out
pub record IsOpen (parts : Parts) (taken : List (TxnId × TxnId)) (choice : Choice) : Type 0 where
  pub choice_of : IsChoice parts choice
  pub writer_other : ¬ Known parts taken choice.writer choice.other
  pub other_reader : ¬ Known parts taken choice.other choice.reader
  pub other_writer : ¬ Known parts taken choice.other choice.writer
  pub reader_other : ¬ Known parts taken choice.reader choice.other

-- the list of the open choices, in order of reader, key, writer, other writer
pub record AreOpenChoices (parts : Parts) (taken : List (TxnId × TxnId)) (choices : List Choice) : Type 0 where
  pub rise : Rises choice_below choices
  pub each : All (IsOpen parts taken) choices
  pub all : (choice : Choice) → IsOpen parts taken choice → Contains choices choice
