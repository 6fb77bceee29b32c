-- For private clauses: what an arc changes in the lines of all sessions.
use Rattle.std.specs.Prelude.{◌≡◌, ℕ, ◌-◌, ◌*◌, ◌<◌, ◌≤◌, min, List, Vec, slice_index, length}
use Rattle.std.specs.declared.alloc.Global.{Global}
use Rattle.txn.specs.declared.transactions.TxnId.{TxnId}
use Rattle.session_clocks.specs.Rows.{line_at}
use Rattle.session_clocks.specs.Tails.{IsLowered, IsRaised}

-- the lines have as many rows as those before these numbers
pub record FitTops (lines : List (Vec ℕ Global)) (gone tops : List ℕ) (width : ℕ) : Type 0 where
  pub sessions : length gone ≡ length lines
  pub numbers : length tops ≡ length lines
  pub rows : (line : ℕ) → line < length lines → (slice_index tops line - slice_index gone line) * width ≤ length (line_at lines line)

-- the lines have as many rows as were received and aren't gone
pub record FitSpans (lines : List (Vec ℕ Global)) (gone received starts : List ℕ) (width : ℕ) : Type 0 where
  pub sessions : length gone ≡ length lines
  pub spans : length received ≡ length lines
  pub numbers : length starts ≡ length lines
  pub order : (line : ℕ) → line < length lines → slice_index gone line ≤ slice_index received line
  pub rows : (line : ℕ) → line < length lines → (slice_index received line - slice_index gone line) * width ≤ length (line_at lines line)

-- the lines are as long as before
pub record AreAsLong (old new : List (Vec ℕ Global)) : Type 0 where
  pub sessions : length new ≡ length old
  pub each : (line : ℕ) → length (line_at new line) ≡ length (line_at old line)

-- in each session rows before its top are lowered
pub record AreLowered (old new : List (Vec ℕ Global)) (gone tops : List ℕ) (end : TxnId) (row : List ℕ) : Type 0 where
  pub long : AreAsLong old new
  pub each : (line : ℕ) → line < length old → IsLowered (line_at old line) (line_at new line) end.session end.number row (slice_index tops line - slice_index gone line)

-- in each session rows from its start on are raised
pub record AreRaised (old new : List (Vec ℕ Global)) (gone received starts : List ℕ) (start : TxnId) (row : List ℕ) : Type 0 where
  pub long : AreAsLong old new
  pub each : (line : ℕ) → line < length old → IsRaised (line_at old line) (line_at new line) start.session start.number row (min (slice_index starts line - slice_index gone line) (slice_index received line - slice_index gone line)) (slice_index received line - slice_index gone line)
