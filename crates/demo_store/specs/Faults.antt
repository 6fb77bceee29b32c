-- The faults of a store: where each applies, and what it tells in place of the last writer. The keys of a request ascend, so that
-- the first of them with a property is the least.
use Rattle.std.specs.Prelude.{◌≡◌, ◌≢◌, ◌<◌, ℕ, true, List, length, take, Contains, Any, Some, slice_index, slice_get, All}
use Rattle.txn.specs.declared.transactions.Source.{Source}
use Rattle.txn.specs.declared.transactions.Source.TheVariants.{Init, By}
use Rattle.txn.specs.declared.transactions.TheConstants.{EPOCH}
use Rattle.txn.specs.History.{writes_key}
use Rattle.demo_store.specs.declared.requests.Request.{Request}
use Rattle.demo_store.specs.declared.requests.Fault.{Fault}
use Rattle.demo_store.specs.declared.requests.Fault.TheVariants.{None, StaleRead, LostUpdate, SplitRead, SessionBack, DirtyRead}
use Rattle.demo_store.specs.declared.requests.Executed.{Executed}
use Rattle.demo_store.specs.Logs.{AreOfKeys, IsLastLost, IsLastPlace, IsSourceIn, NoneWrote}

-- the first of the keys with the property, key 0 aside
pub record IsFirstOf (P : ℕ → Type 0) (keys : List ℕ) (key : ℕ) : Type 0 where
  pub place : ℕ
  pub within : place < length keys
  pub there : slice_index keys place ≡ key
  pub no_epoch : key ≢ EPOCH
  pub holds : P key
  pub first : (k : ℕ) → k < place → slice_index keys k ≢ EPOCH → ¬ P (slice_index keys k)

-- the source that the key had in front of its last writer
pub record IsStale (log : List Executed) (key : ℕ) (source : Source) : Type 0 where
  pub place : ℕ
  pub last : IsLastPlace log key (Some place)
  pub before : IsSourceIn (take place log) key source

-- the last writer of the key read it from there
pub record IsLost (log : List Executed) (key : ℕ) (source : Source) : Type 0 where
  pub place : ℕ
  pub last : IsLastPlace log key (Some place)
  pub writer : Executed
  pub there : slice_get log place ≡ Some writer
  pub read : Contains writer.txn.reads (key, source)

-- both keys have one last writer, which is the only one of the greater
pub record IsSplit (log : List Executed) (lower key : ℕ) : Type 0 where
  pub below : lower < key
  pub place : ℕ
  pub last : IsLastPlace log lower (Some place)
  pub also : IsLastPlace log key (Some place)
  pub only : NoneWrote (take place log) key

-- the session wrote the key
abbrev pub HasWritten : List Executed → ℕ → ℕ → Type 0
HasWritten log session key = Any (λ e. (e.id.session ≡ session) × (writes_key (Some e.txn) key ≡ true)) log

-- the source is the last aborted writer of the key
abbrev pub IsDirty : List Executed → ℕ → Source → Type 0
IsDirty log key Init = ⊥
IsDirty log key (By id) = IsLastLost log key (Some id)

-- the fault tells this source of this key to the request
abbrev pub IsLie : Fault → List Executed → Request → ℕ → Source → Type 0
IsLie None log request key source = ⊥
IsLie StaleRead log request key source = IsFirstOf (λ k. (s : Source) × IsStale log k s) request.reads key × IsStale log key source
IsLie LostUpdate log request key source = IsFirstOf (λ k. Contains request.writes k × ((s : Source) × IsLost log k s)) request.reads key × IsLost log key source
IsLie SplitRead log request key source = (lower : ℕ) × IsFirstOf (λ j. Any (IsSplit log j) request.reads) request.reads lower × IsFirstOf (IsSplit log lower) request.reads key × (source ≡ Init)
IsLie SessionBack log request key source = IsFirstOf (HasWritten log request.session) request.reads key × (source ≡ Init)
IsLie DirtyRead log request key source = IsFirstOf (λ k. (s : Source) × IsDirty log k s) request.reads key × IsDirty log key source

-- a read of this key is answered with this, one of another key with its source in the log
pub record IsToldBut (log : List Executed) (key : ℕ) (source : Source) (read : ℕ × Source) : Type 0 where
  pub lie : read.0 ≡ key → read.1 ≡ source
  pub other : read.0 ≢ key → IsSourceIn log read.0 read.1

-- each of these keys, in order: this one with this answer, each other one with its source in the log
pub record AnswersBut (log : List Executed) (keys : List ℕ) (key : ℕ) (source : Source) (reads : List (ℕ × Source)) : Type 0 where
  pub keys_are : AreOfKeys keys reads
  pub told : All (IsToldBut log key source) reads
