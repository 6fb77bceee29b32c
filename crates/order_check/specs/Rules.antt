-- For private clauses, but for the last: the rules of parts, in the groups that they are tested in.
use Rattle.std.specs.Prelude.{◌≡◌, ℕ, ◌+◌, ◌<◌, ◌≤◌, ◌^◌, List, length, slice_get, slice_index, Some}
use Rattle.std.specs.Ordering.{nat_cmp}
use Rattle.std.specs.FinMap.{FinMap, get}
use Rattle.txn.specs.declared.transactions.TxnId.{TxnId}
use Rattle.txn.specs.declared.transactions.Txn.{Txn}
use Rattle.txn.specs.Transactions.{IsWellFormed, IsShort}
use Rattle.order_check.specs.declared.remainder.Parts.{Parts}
use Rattle.order_check.specs.Based.{mark_of, remaining_of, received_count}

-- 1 session or more, and no more than there may be, at most 256; each with a mark and a flag; and a limit of 1 to 1,048,576
pub record HasGoodShape (parts : Parts) : Type 0 where
  pub some_sessions : 1 ≤ length parts.remain
  pub few_sessions : length parts.remain ≤ parts.most_sessions
  pub low_sessions : parts.most_sessions ≤ 256
  pub marks : length parts.base.marks ≡ length parts.remain
  pub closed : length parts.closed ≡ length parts.remain
  pub some_limit : 1 ≤ parts.limit
  pub low_limit : parts.limit ≤ 1048576

-- a transaction is well formed as the one with this id, where there may be so many sessions, and short
pub record IsGoodTxn (sessions : ℕ) (id : TxnId) (txn : Txn) : Type 0 where
  pub well_formed : IsWellFormed sessions id txn
  pub short : IsShort txn

-- the transactions before this place of a session are good, where the first of them has this number
abbrev pub AreGoodBelow : ℕ → ℕ → ℕ → List Txn → ℕ → Type 0
AreGoodBelow sessions s first txns place = (n : ℕ) (txn : Txn) → n < place → slice_get txns n ≡ Some txn → IsGoodTxn sessions (record { session = s; number = first + n }) txn

-- what remains of a session is good, and numbered below 2^48
pub record IsGoodSession (parts : Parts) (s : ℕ) : Type 0 where
  pub numbers : received_count parts s ≤ 2 ^ 48
  pub txns : AreGoodBelow parts.most_sessions s (mark_of parts s) (remaining_of parts s) (length (remaining_of parts s))

-- the sessions before this one are good
abbrev pub AreGoodSessions : Parts → ℕ → Type 0
AreGoodSessions parts count = (s : ℕ) → s < count → IsGoodSession parts s

-- an id is below the mark of its session
abbrev pub IsBelowMark : List ℕ → TxnId → Type 0
IsBelowMark marks id = id.number < slice_index marks id.session

-- each key's last writer is below the mark of its session
abbrev pub AreBelowMarks : List ℕ → FinMap nat_cmp TxnId → Type 0
AreBelowMarks marks last = (key : ℕ) (writer : TxnId) → get last key ≡ Some writer → IsBelowMark marks writer
