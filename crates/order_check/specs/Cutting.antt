-- Cuts that can be applied to parts.
use Rattle.std.specs.Prelude.{◌≡◌, ℕ, List, Some, Contains, filter, take}
use Rattle.std.specs.Ordering.{nat_cmp}
use Rattle.std.specs.FinMap.{FinMap, get}
use Rattle.txn.specs.declared.transactions.TxnId.{TxnId}
use Rattle.txn.specs.History.{in_session}
use Rattle.order_check.specs.declared.remainder.Parts.{Parts}
use Rattle.order_check.specs.Based.{remaining_ids}
use Rattle.order_check.specs.Settled.{count_in}

-- Session by session the gone are the first of what remains, in order of number, and each last writer is one of the gone.
pub record CanBeApplied (parts : Parts) (gone : List TxnId) (last : FinMap nat_cmp TxnId) : Type 0 where
  pub front : (s : ℕ) → filter (in_session s) gone ≡ take (count_in gone s) (remaining_ids parts s)
  pub writers : (key : ℕ) (writer : TxnId) → get last key ≡ Some writer → Contains gone writer
