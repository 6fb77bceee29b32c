-- For private clauses: transactions whose rows an arc changes, as they are noted before it changes them.
use Rattle.std.specs.Prelude.{◌≡◌, ◌⊎◌, ℕ, ◌+◌, ◌-◌, ◌<◌, ◌≤◌, min, List, Vec, Contains, slice_index, length}
use Rattle.std.specs.declared.alloc.Global.{Global}
use Rattle.txn.specs.declared.transactions.TxnId.{TxnId}
use Rattle.session_clocks.specs.Rows.{line_at, number_at}

-- the first transaction that is there of a session
abbrev pub first_of : List ℕ → ℕ → TxnId
first_of gone line = record { session = line; number = slice_index gone line }

-- the transaction of a row, where the session's first row is that of this one
abbrev pub id_at : TxnId → ℕ → TxnId
id_at first row = record { session = first.session; number = first.number + row }

-- each transaction is noted from whose row on all rows before the top have a number for the end's session above the end
abbrev pub IsAllOfTail : List ℕ → ℕ → ℕ → TxnId → TxnId → List TxnId → Type 0
IsAllOfTail numbers width top first end noted = (row : ℕ) → row < top → ((later : ℕ) → row ≤ later → later < top → end.number < number_at width numbers later end.session) → Contains noted (id_at first row)

-- the transaction's row is one before the top, and its number for the end's session is above the end
abbrev pub IsOfTail : List ℕ → ℕ → ℕ → TxnId → TxnId → TxnId → Type 0
IsOfTail numbers width top first end id = (row : ℕ) × (row < top) × (end.number < number_at width numbers row end.session) × (id ≡ id_at first row)

-- such transactions of one session are noted, and no others
pub record AreTailNoted (numbers : List ℕ) (width top : ℕ) (first end : TxnId) (old new : List TxnId) : Type 0 where
  pub all : IsAllOfTail numbers width top first end new
  pub only : (id : TxnId) → Contains new id → Contains old id ⊎ IsOfTail numbers width top first end id

-- the transaction is such a one of some session
abbrev pub IsOfTails : List (Vec ℕ Global) → ℕ → List ℕ → List ℕ → TxnId → TxnId → Type 0
IsOfTails lines width gone tops end id = (line : ℕ) × (line < length lines) × IsOfTail (line_at lines line) width (slice_index tops line - slice_index gone line) (first_of gone line) end id

-- the same in all sessions
pub record AreTailsNoted (lines : List (Vec ℕ Global)) (width : ℕ) (gone tops : List ℕ) (end : TxnId) (old new : List TxnId) : Type 0 where
  pub all : (line : ℕ) → line < length lines → IsAllOfTail (line_at lines line) width (slice_index tops line - slice_index gone line) (first_of gone line) end new
  pub only : (id : TxnId) → Contains new id → Contains old id ⊎ IsOfTails lines width gone tops end id

-- each transaction is noted up to whose row no row has a number for the start's session above the start
abbrev pub IsAllOfSpan : List ℕ → ℕ → ℕ → ℕ → TxnId → TxnId → List TxnId → Type 0
IsAllOfSpan numbers width from rows first start noted = (row : ℕ) → from ≤ row → row < rows → ((before : ℕ) → from ≤ before → before ≤ row → number_at width numbers before start.session ≤ start.number) → Contains noted (id_at first row)

-- the transaction's row is one of the span, and its number for the start's session isn't above the start
abbrev pub IsOfSpan : List ℕ → ℕ → ℕ → ℕ → TxnId → TxnId → TxnId → Type 0
IsOfSpan numbers width from rows first start id = (row : ℕ) × (from ≤ row) × (row < rows) × (number_at width numbers row start.session ≤ start.number) × (id ≡ id_at first row)

-- such transactions of one session are noted, and no others
pub record AreSpanNoted (numbers : List ℕ) (width from rows : ℕ) (first start : TxnId) (old new : List TxnId) : Type 0 where
  pub all : IsAllOfSpan numbers width from rows first start new
  pub only : (id : TxnId) → Contains new id → Contains old id ⊎ IsOfSpan numbers width from rows first start id

-- the first row of a session from which on rows may be raised
abbrev pub span_from : List ℕ → List ℕ → List ℕ → ℕ → ℕ
span_from gone received starts line = min (slice_index starts line - slice_index gone line) (slice_index received line - slice_index gone line)

-- the transaction is such a one of some session
abbrev pub IsOfSpans : List (Vec ℕ Global) → ℕ → List ℕ → List ℕ → List ℕ → TxnId → TxnId → Type 0
IsOfSpans lines width gone received starts start id = (line : ℕ) × (line < length lines) × IsOfSpan (line_at lines line) width (span_from gone received starts line) (slice_index received line - slice_index gone line) (first_of gone line) start id

-- the same in all sessions
pub record AreSpansNoted (lines : List (Vec ℕ Global)) (width : ℕ) (gone received starts : List ℕ) (start : TxnId) (old new : List TxnId) : Type 0 where
  pub all : (line : ℕ) → line < length lines → IsAllOfSpan (line_at lines line) width (span_from gone received starts line) (slice_index received line - slice_index gone line) (first_of gone line) start new
  pub only : (id : TxnId) → Contains new id → Contains old id ⊎ IsOfSpans lines width gone received starts start id
