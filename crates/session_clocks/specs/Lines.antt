-- For private clauses: the lines of the sessions as they are made, and as a row is put behind one.
use Rattle.std.specs.Prelude.{◌≡◌, ℕ, List, [], Vec, slice_index, length}
use Rattle.std.specs.declared.alloc.Global.{Global}
use Rattle.session_clocks.specs.Rows.{line_at, IsOneLine, IsFirstRow, IsCountRow}

-- so many lines with no row
pub record AreEmptyLines (sessions : ℕ) (lines : List (Vec ℕ Global)) : Type 0 where
  pub len : length lines ≡ sessions
  pub each : (line : ℕ) → line_at lines line ≡ []

-- the lists have the same numbers
pub record IsSameList (old new : List ℕ) : Type 0 where
  pub len : length new ≡ length old
  pub each : (j : ℕ) → slice_index new j ≡ slice_index old j

-- the lines have the same numbers
pub record AreSameNumbers (old new : List (Vec ℕ Global)) : Type 0 where
  pub sessions : length new ≡ length old
  pub each : (line : ℕ) → IsSameList (line_at old line) (line_at new line)

-- the session's line has one more row, and no other line changed
pub record HasFirstRow (old new : List (Vec ℕ Global)) (width session number : ℕ) : Type 0 where
  pub row : IsFirstRow (line_at old session) (line_at new session) width session number
  pub others : IsOneLine old new session

-- the same of counts
pub record HasCountRow (old new : List (Vec ℕ Global)) (width session number : ℕ) : Type 0 where
  pub row : IsCountRow (line_at old session) (line_at new session) width session number
  pub others : IsOneLine old new session
