-- For private clauses: the writers of a key, in order of session.
use Rattle.std.specs.Prelude.{◌≡◌, ◌<◌, ◌≤◌, ℕ, List, [], ◌∷◌, All, length, slice_index_or}
use Rattle.txn.specs.declared.transactions.TxnId.{TxnId}
use Rattle.clock_choices.specs.declared.runs.Run.{Run}
use Rattle.clock_choices.specs.Runs.{Climbs}

-- the run has a number, and its numbers climb
pub record IsRun (run : Run) : Type 0 where
  pub some : 0 < length run.numbers.items
  pub climbs : Climbs run.numbers.items

-- each run is of a later session than those before it
abbrev pub SessionsRise : List Run → Type 0
SessionsRise runs = (i j : ℕ) (d : Run) → i < j → j < length runs → (slice_index_or runs i d).session < (slice_index_or runs j d).session

pub record AreRuns (runs : List Run) : Type 0 where
  pub each : All IsRun runs
  pub rise : SessionsRise runs

-- so many of the runs, at the front, are of sessions before this one, and no others
pub record IsRunPlace (runs : List Run) (session place : ℕ) : Type 0 where
  pub within : place ≤ length runs
  pub low : (k : ℕ) (d : Run) → k < place → (slice_index_or runs k d).session < session
  pub high : (k : ℕ) (d : Run) → place ≤ k → k < length runs → session ≤ (slice_index_or runs k d).session

-- the session's run stands at the place
pub record IsRunOf (runs : List Run) (place session : ℕ) : Type 0 where
  pub within : place < length runs
  pub at : (d : Run) → (slice_index_or runs place d).session ≡ session

-- a run of the transaction alone
pub record IsOneOf (id : TxnId) (run : Run) : Type 0 where
  pub session : run.session ≡ id.session
  pub numbers : run.numbers.items ≡ id.number ∷ []
