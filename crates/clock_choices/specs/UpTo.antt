-- For private clauses: graphs to which the transactions of parts come, of each session up to some number.
use Rattle.std.specs.Prelude.{◌≡◌, ◌≢◌, ◌<◌, ◌≤◌, ℕ, List, [], Some, All, length, slice_index, slice_index_or}
use Rattle.txn.specs.declared.transactions.Txn.{Txn}
use Rattle.txn.specs.declared.transactions.Source.{Source}
use Rattle.txn.specs.declared.transactions.Source.TheVariants.{Init, By}
use Rattle.order_check.specs.declared.remainder.Parts.{Parts}
use Rattle.order_check.specs.Based.{Remains, mark_of, received_count, remaining_at}
use Rattle.order_check.specs.Cycles.{IsArc}
use Rattle.session_clocks.specs.Graphs.{GraphState, HasNode}

-- of what remains of each session the first ones are there, up to some number, and each arc is right
pub record IsGraphUpTo (parts : Parts) (graph : GraphState) : Type 0 where
  pub sessions : length graph.gone ≡ length parts.remain
  pub width : length graph.received ≡ length graph.gone
  pub marks : (s : ℕ) → slice_index graph.gone s ≡ mark_of parts s
  pub low : (s : ℕ) → mark_of parts s ≤ slice_index graph.received s
  pub high : (s : ℕ) → slice_index graph.received s ≤ received_count parts s
  pub right : All (IsArc parts []) graph.arcs

-- it is such again, and all that was there still is
pub record GoesUp (parts : Parts) (old new : GraphState) : Type 0 where
  pub up_to : IsGraphUpTo parts new
  pub gone : new.gone ≡ old.gone
  pub stay : (s : ℕ) → slice_index old.received s ≤ slice_index new.received s

-- the source of a session's read is a transaction of another session that remains and isn't there yet
abbrev pub IsToCome : Parts → GraphState → ℕ → Source → Type 0
IsToCome parts graph session Init = ⊥
IsToCome parts graph session (By writer) = (writer.session ≢ session) × (¬ HasNode graph writer) × Remains parts writer

-- no source is still to come of the reads from the one place up to the other; at that, if it is within, one is
pub record AreReady (parts : Parts) (graph : GraphState) (session : ℕ) (reads : List (ℕ × Source)) (from to : ℕ) : Type 0 where
  pub order : from ≤ to
  pub each : (k : ℕ) (d : ℕ × Source) → from ≤ k → k < to → k < length reads → ¬ IsToCome parts graph session (slice_index_or reads k d).1
  pub next : (d : ℕ × Source) → to < length reads → IsToCome parts graph session (slice_index_or reads to d).1

-- the session has a next transaction, and no source is still to come of its reads from this place on
pub record IsNextReady (parts : Parts) (graph : GraphState) (session from to : ℕ) : Type 0 where
  pub txn : Txn
  pub remains : remaining_at parts (record { session = session; number = slice_index graph.received session }) ≡ Some txn
  pub ready : AreReady parts graph session txn.reads from to
  pub all : length txn.reads ≤ to
