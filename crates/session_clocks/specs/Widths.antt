-- For private clauses: rows with a number more.
use Rattle.std.specs.Prelude.{◌≡◌, ℕ, ◌+◌, ◌-◌, ◌*◌, ◌<◌, List, [], Vec, slice_index, length}
use Rattle.std.specs.declared.alloc.Global.{Global}
use Rattle.session_clocks.specs.Rows.{line_at, number_at}

-- each of so many rows has this number more at its end
pub record IsWidened (old new : List ℕ) (rows width number : ℕ) : Type 0 where
  pub len : length new ≡ rows * (width + 1)
  pub each : (row place : ℕ) → row < rows → place < width → number_at (width + 1) new row place ≡ number_at width old row place
  pub last : (row : ℕ) → row < rows → number_at (width + 1) new row width ≡ number

-- the rows of each session have this number more, and a session with no rows stands behind the others
pub record AreWidened (old new : List (Vec ℕ Global)) (gone received : List ℕ) (number : ℕ) : Type 0 where
  pub sessions : length new ≡ length old + 1
  pub each : (line : ℕ) → line < length old → IsWidened (line_at old line) (line_at new line) (slice_index received line - slice_index gone line) (length gone) number
  pub last : line_at new (length old) ≡ []
