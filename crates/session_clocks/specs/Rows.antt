-- For private clauses: the rows of numbers of each session, which stand behind one another in one list.
use Rattle.std.specs.Prelude.{◌≡◌, ◌≢◌, ◌⊎◌, ℕ, zero, suc, ◌^◌, ◌+◌, ◌-◌, ◌*◌, ◌<◌, ◌≤◌, List, [], ◌∷◌, Vec, slice_index, length}
use Rattle.std.specs.declared.alloc.Global.{Global}
use Rattle.txn.specs.declared.transactions.TxnId.{TxnId}

-- the numbers of a session's rows, none past the last session
abbrev pub line_at : List (Vec ℕ Global) → ℕ → List ℕ
line_at [] session = []
line_at (line ∷ lines) zero = line.items
line_at (line ∷ lines) (suc session) = line_at lines session

-- no other line changed
pub record IsOneLine (old new : List (Vec ℕ Global)) (session : ℕ) : Type 0 where
  pub sessions : length new ≡ length old
  pub others : (other : ℕ) → other ≢ session → line_at new other ≡ line_at old other

-- the number at a place of a row, where each row has so many
abbrev pub number_at : ℕ → List ℕ → ℕ → ℕ → ℕ
number_at width line row place = slice_index line (row * width + place)

-- the number that a transaction's row has for a session
abbrev pub clock_of : List ℕ → List (Vec ℕ Global) → TxnId → ℕ → ℕ
clock_of gone lines id session = number_at (length gone) (line_at lines id.session) (id.number - slice_index gone id.session) session

-- the lesser of two
abbrev pub IsLesser : ℕ → ℕ → ℕ → Type 0
IsLesser a b lesser = (lesser ≤ a) × (lesser ≤ b) × ((lesser ≡ a) ⊎ (lesser ≡ b))

-- the greater of two
abbrev pub IsGreater : ℕ → ℕ → ℕ → Type 0
IsGreater a b greater = (a ≤ greater) × (b ≤ greater) × ((greater ≡ a) ⊎ (greater ≡ b))

-- the transaction has a row
pub record HasRow (gone : List ℕ) (lines : List (Vec ℕ Global)) (id : TxnId) : Type 0 where
  pub session : id.session < length gone
  pub line : id.session < length lines
  pub stays : slice_index gone id.session ≤ id.number
  pub within : (id.number - slice_index gone id.session) * length gone + length gone ≤ length (line_at lines id.session)

-- one more row, of a transaction that reaches the next of its session alone
pub record IsFirstRow (old new : List ℕ) (width session number : ℕ) : Type 0 where
  pub len : length new ≡ length old + width
  pub before : (j : ℕ) → j < length old → slice_index new j ≡ slice_index old j
  pub own : slice_index new (length old + session) ≡ number + 1
  pub others : (k : ℕ) → k < width → k ≢ session → slice_index new (length old + k) ≡ 2 ^ 64 - 1

-- one more row, of a transaction that its session's earlier ones reach, and what reaches the last of these
pub record IsCountRow (old new : List ℕ) (width session number : ℕ) : Type 0 where
  pub len : length new ≡ length old + width
  pub before : (j : ℕ) → j < length old → slice_index new j ≡ slice_index old j
  pub own : slice_index new (length old + session) ≡ number
  pub none : length old ≡ 0 → (k : ℕ) → k < width → k ≢ session → slice_index new (length old + k) ≡ 0
  pub last : 0 < length old → (k : ℕ) → k < width → k ≢ session → slice_index new (length old + k) ≡ slice_index old (length old - width + k)

-- the transaction's row, with itself in it
pub record IsFirstOf (gone : List ℕ) (lines : List (Vec ℕ Global)) (id : TxnId) (row : List ℕ) : Type 0 where
  pub len : length row ≡ length gone
  pub own : IsLesser (clock_of gone lines id id.session) id.number (slice_index row id.session)
  pub others : (session : ℕ) → session < length gone → session ≢ id.session → slice_index row session ≡ clock_of gone lines id session

-- the same of how many reach it
pub record IsCountOf (gone : List ℕ) (lines : List (Vec ℕ Global)) (id : TxnId) (row : List ℕ) : Type 0 where
  pub len : length row ≡ length gone
  pub own : IsGreater (clock_of gone lines id id.session) (id.number + 1) (slice_index row id.session)
  pub others : (session : ℕ) → session < length gone → session ≢ id.session → slice_index row session ≡ clock_of gone lines id session
