-- For private clauses: the writers of a key, session by session.
use Rattle.std.specs.Prelude.{◌≡◌, ◌≢◌, ◌+◌, ◌<◌, ◌≤◌, ℕ, List, Contains, length, slice_index}
use Rattle.txn.specs.declared.transactions.TxnId.{TxnId}

-- each number is above all before it
abbrev pub Climbs : List ℕ → Type 0
Climbs numbers = (i j : ℕ) → i < j → j < length numbers → slice_index numbers i < slice_index numbers j

-- so many of the numbers, at the front, are below this, and no others
pub record AreBelow (numbers : List ℕ) (bound count : ℕ) : Type 0 where
  pub within : count ≤ length numbers
  pub low : (k : ℕ) → k < count → slice_index numbers k < bound
  pub high : (k : ℕ) → count ≤ k → k < length numbers → bound ≤ slice_index numbers k

-- so many at the front are below this, and none behind so many more
pub record IsBetween (numbers : List ℕ) (bound count more : ℕ) : Type 0 where
  pub within : count + more ≤ length numbers
  pub low : (k : ℕ) → k < count → slice_index numbers k < bound
  pub high : (k : ℕ) → count + more ≤ k → k < length numbers → bound ≤ slice_index numbers k

-- a transaction of the session with one of the numbers, which is neither of the two
pub record IsThird (session : ℕ) (numbers : List ℕ) (reader writer other : TxnId) : Type 0 where
  pub same : other.session ≡ session
  pub listed : Contains numbers other.number
  pub not_reader : other ≢ reader
  pub not_writer : other ≢ writer

-- the last such one below the number
pub record IsLastThird (session : ℕ) (numbers : List ℕ) (reader writer : TxnId) (bound : ℕ) (last : TxnId) : Type 0 where
  pub third : IsThird session numbers reader writer last
  pub below : last.number < bound
  pub each : (other : TxnId) → IsThird session numbers reader writer other → other.number < bound → other.number ≤ last.number

-- the first such one from the number on
pub record IsFirstThird (session : ℕ) (numbers : List ℕ) (reader writer : TxnId) (bound : ℕ) (first : TxnId) : Type 0 where
  pub third : IsThird session numbers reader writer first
  pub from : bound ≤ first.number
  pub each : (other : TxnId) → IsThird session numbers reader writer other → bound ≤ other.number → first.number ≤ other.number
