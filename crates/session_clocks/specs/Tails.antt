-- For private clauses: the rows of a session that an arc changes.
use Rattle.std.specs.Prelude.{◌≡◌, ◌⊎◌, ℕ, ◌-◌, ◌<◌, ◌≤◌, List, slice_index, length}
use Rattle.session_clocks.specs.Rows.{number_at, IsLesser, IsGreater}

-- the rows from one place up to another are lowered to the row, and no other row changed
pub record IsLowering (old new row : List ℕ) (stop top : ℕ) : Type 0 where
  pub order : stop ≤ top
  pub joined : (at place : ℕ) → stop ≤ at → at < top → place < length row → IsLesser (number_at (length row) old at place) (slice_index row place) (number_at (length row) new at place)
  pub others : (at place : ℕ) → (at < stop) ⊎ (top ≤ at) → place < length row → number_at (length row) new at place ≡ number_at (length row) old at place

-- the same of rows that are raised
pub record IsRaising (old new row : List ℕ) (from stop rows : ℕ) : Type 0 where
  pub order : (from ≤ stop) × (stop ≤ rows)
  pub joined : (at place : ℕ) → from ≤ at → at < stop → place < length row → IsGreater (number_at (length row) old at place) (slice_index row place) (number_at (length row) new at place)
  pub others : (at place : ℕ) → (at < from) ⊎ (stop ≤ at) → place < length row → number_at (length row) new at place ≡ number_at (length row) old at place

-- the last rows before the top are lowered, whose numbers for the session are above this; where one stands before them, its number for the session is as low as this already
pub record IsLowered (old new : List ℕ) (session number : ℕ) (row : List ℕ) (top : ℕ) : Type 0 where
  pub stop : ℕ
  pub lowering : IsLowering old new row stop top
  pub above : (at : ℕ) → stop ≤ at → at < top → number < number_at (length row) old at session
  pub before : (stop ≡ 0) ⊎ (number_at (length row) old (stop - 1) session ≤ number)

-- the first rows from this one on are raised, whose numbers for the session aren't above this; where one stands behind them, its number for the session is above this already
pub record IsRaised (old new : List ℕ) (session number : ℕ) (row : List ℕ) (from rows : ℕ) : Type 0 where
  pub stop : ℕ
  pub raising : IsRaising old new row from stop rows
  pub below : (at : ℕ) → from ≤ at → at < stop → number_at (length row) old at session ≤ number
  pub behind : (stop ≡ rows) ⊎ (number < number_at (length row) old stop session)
