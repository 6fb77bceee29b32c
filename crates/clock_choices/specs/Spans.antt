-- For private clauses: the choices of a read that a relation leaves undecided, which stand together in each session.
use Rattle.std.specs.Prelude.{◌↔◌, ◌<◌, ◌≤◌, ℕ, List, length, slice_index}
use Rattle.txn.specs.declared.transactions.TxnId.{TxnId}
use Rattle.clock_choices.specs.declared.reads.Read.{Read}
use Rattle.clock_choices.specs.Runs.{IsThird}

-- it isn't known of another transaction that it stands behind the writer, or before the reader, nor that it stands before the writer, or behind the reader
pub record IsUndecided (R : TxnId → TxnId → Type 0) (read : Read) (other : TxnId) : Type 0 where
  pub writer_other : ¬ R read.writer other
  pub other_reader : ¬ R other read.reader
  pub other_writer : ¬ R other read.writer
  pub reader_other : ¬ R read.reader other

-- the session's transaction with the number at a place
abbrev pub id_at : ℕ → List ℕ → ℕ → TxnId
id_at session numbers place = record { session = session; number = slice_index numbers place }

-- a third writer, of which nothing is decided
abbrev pub IsOpenAt : (TxnId → TxnId → Type 0) → Read → ℕ → List ℕ → ℕ → Type 0
IsOpenAt R read session numbers place = IsThird session numbers read.reader read.writer (id_at session numbers place) × IsUndecided R read (id_at session numbers place)

-- those of these places are open, and no others
pub record IsOpenSpan (R : TxnId → TxnId → Type 0) (read : Read) (session : ℕ) (numbers : List ℕ) (from to : ℕ) : Type 0 where
  pub order : from ≤ to
  pub within : to ≤ length numbers
  pub exact : (place : ℕ) → place < length numbers → ((from ≤ place) × (place < to)) ↔ IsOpenAt R read session numbers place
