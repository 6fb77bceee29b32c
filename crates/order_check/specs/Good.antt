-- The rules that parts keep.
use Rattle.std.specs.Prelude.{◌≡◌, ℕ, ◌+◌, ◌≤◌, ◌^◌, length, slice_get, Some, sum_by}
use Rattle.txn.specs.declared.transactions.Txn.{Txn}
use Rattle.txn.specs.Transactions.{IsWellFormed, IsShort}
use Rattle.order_check.specs.declared.remainder.Parts.{Parts}
use Rattle.order_check.specs.Based.{mark_of, remaining_of, received_count, HasGoneBase}

pub record IsGood (parts : Parts) : Type 0 where
  -- 1 session or more, and no more than there may be, which an opening says and is at most 256; each with a mark and a flag
  pub some_sessions : 1 ≤ length parts.remain
  pub few_sessions : length parts.remain ≤ parts.most_sessions
  pub low_sessions : parts.most_sessions ≤ 256
  pub marks : length parts.base.marks ≡ length parts.remain
  pub closed : length parts.closed ≡ length parts.remain
  -- a limit of 1 to 1,048,576, of which an opening may allow less, and no more remain
  pub some_limit : 1 ≤ parts.limit
  pub low_limit : parts.limit ≤ 1048576
  pub room : sum_by length parts.remain ≤ parts.limit
  -- transactions are numbered below 2^48
  pub numbers : (s : ℕ) → received_count parts s ≤ 2 ^ 48
  -- what remains is well formed at its place, and short
  pub well_formed : (s n : ℕ) (txn : Txn) → slice_get (remaining_of parts s) n ≡ Some txn → IsWellFormed parts.most_sessions (record { session = s; number = mark_of parts s + n }) txn
  pub short : (s n : ℕ) (txn : Txn) → slice_get (remaining_of parts s) n ≡ Some txn → IsShort txn
  -- a last gone writer is gone
  pub base : HasGoneBase parts
