-- For private clauses: numbers of lines that were saved before they were written over.
use Rattle.std.specs.Prelude.{◌≡◌, ◌⊎◌, ℕ, ◌+◌, ◌-◌, ◌*◌, ◌<◌, ◌≤◌, min, cond, ◌&&◌, nat_eq, List, [], ◌∷◌, ◌++◌, Vec, All, Contains, length, drop, slice_index}
use Rattle.std.specs.declared.alloc.Global.{Global}
use Rattle.txn.specs.declared.transactions.TxnId.{TxnId}
use Rattle.session_clocks.specs.Rows.{line_at, number_at}
use Rattle.session_clocks.specs.declared.trail.Saved.{Saved}
use Rattle.session_clocks.specs.declared.trail.Way.{Way}
use Rattle.session_clocks.specs.declared.trail.Way.TheVariants.{Lowered, Raised}

-- the number at a place of a line
abbrev pub place_in : List (Vec ℕ Global) → ℕ → ℕ → ℕ
place_in lines line place = slice_index (line_at lines line) place

-- the place is one of the lines
abbrev pub IsWithin : List (Vec ℕ Global) → Saved → Type 0
IsWithin lines saved = (saved.line < length lines) × (saved.place < length (line_at lines saved.line))

-- the place is one of the lines, and the number stands there
abbrev pub IsSavedFrom : List (Vec ℕ Global) → Saved → Type 0
IsSavedFrom lines saved = IsWithin lines saved × (saved.number ≡ place_in lines saved.line saved.place)

-- the number of this place was saved
abbrev pub IsSavedIn : List Saved → ℕ → ℕ → Type 0
IsSavedIn numbers line place = (saved : Saved) × Contains numbers saved × (saved.line ≡ line) × (saved.place ≡ place)

-- numbers that stand in the lines are saved behind those that were saved before
abbrev pub IsMoreOf : List (Vec ℕ Global) → List Saved → List Saved → Type 0
IsMoreOf lines old new = (more : List Saved) × (new ≡ old ++ more) × All (IsSavedFrom lines) more

-- what is saved behind those that were saved before
abbrev pub since : List Saved → List Saved → List Saved
since old new = drop (length old) new

-- the numbers before these were written over, the first of them first
abbrev pub had : List Saved → (ℕ → ℕ → ℕ) → ℕ → ℕ → ℕ
had [] numbers line place = numbers line place
had (saved ∷ later) numbers line place = cond (nat_eq saved.line line && nat_eq saved.place place) saved.number (had later numbers line place)

-- lowering a number to another one that is no less, or raising it to one that is no greater, leaves it as it is
abbrev pub Stays : Way → ℕ → ℕ → Type 0
Stays Lowered number other = number ≤ other
Stays Raised number other = other ≤ number

-- each number of the row that joining another row changes is saved
abbrev pub IsRowSaved : Way → List (Vec ℕ Global) → List Saved → ℕ → ℕ → List ℕ → Type 0
IsRowSaved way lines numbers line at row = (k : ℕ) → k < length row → Stays way (number_at (length row) (line_at lines line) at k) (slice_index row k) ⊎ IsSavedIn numbers line (at * length row + k)

-- some of the rows before the top are saved; where one stands before them, its number for the session is as low as this already
pub record IsTailSaved (lines : List (Vec ℕ Global)) (numbers : List Saved) (line session number : ℕ) (row : List ℕ) (top : ℕ) : Type 0 where
  pub stop : ℕ
  pub order : stop ≤ top
  pub rows : (at : ℕ) → stop ≤ at → at < top → IsRowSaved Lowered lines numbers line at row
  pub before : (stop ≡ 0) ⊎ (number_at (length row) (line_at lines line) (stop - 1) session ≤ number)

-- some of the rows from this one on are saved; where one stands behind them, its number for the session is above this already
pub record IsSpanSaved (lines : List (Vec ℕ Global)) (numbers : List Saved) (line session number : ℕ) (row : List ℕ) (from rows : ℕ) : Type 0 where
  pub stop : ℕ
  pub order : (from ≤ stop) × (stop ≤ rows)
  pub each : (at : ℕ) → from ≤ at → at < stop → IsRowSaved Raised lines numbers line at row
  pub behind : (stop ≡ rows) ⊎ (number < number_at (length row) (line_at lines line) stop session)

-- in each session the rows before its top
abbrev pub AreTailsSaved : List (Vec ℕ Global) → List Saved → List ℕ → List ℕ → TxnId → List ℕ → Type 0
AreTailsSaved lines numbers gone tops end row = (line : ℕ) → line < length lines → IsTailSaved lines numbers line end.session end.number row (slice_index tops line - slice_index gone line)

-- in each session the rows from its start on
abbrev pub AreSpansSaved : List (Vec ℕ Global) → List Saved → List ℕ → List ℕ → List ℕ → TxnId → List ℕ → Type 0
AreSpansSaved lines numbers gone received starts start row = (line : ℕ) → line < length lines → IsSpanSaved lines numbers line start.session start.number row (min (slice_index starts line - slice_index gone line) (slice_index received line - slice_index gone line)) (slice_index received line - slice_index gone line)
