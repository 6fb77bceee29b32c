-- Fences that are known to come before or after every other one.
use Rattle.std.specs.Prelude.{◌≢◌, ◌⊎◌, ◌↔◌, List, Contains, IsSomeAnd}
use Rattle.std.specs.List.{AllPairs}
use Rattle.txn.specs.declared.transactions.TxnId.{TxnId}
use Rattle.txn.specs.Transactions.{IsFence}
use Rattle.order_check.specs.declared.remainder.Parts.{Parts}
use Rattle.order_check.specs.Based.{remaining_at}
use Rattle.order_check.specs.Settled.{IsBefore}

-- a transaction that remains and is a fence
abbrev pub IsRemainingFence : Parts → TxnId → Type 0
IsRemainingFence parts id = IsSomeAnd (remaining_at parts id) IsFence

-- a remaining fence that comes before or after every other remaining fence
pub record IsChained (parts : Parts) (fence : TxnId) : Type 0 where
  pub remains : IsRemainingFence parts fence
  pub ordered : (other : TxnId) → IsRemainingFence parts other → other ≢ fence → IsBefore parts other fence ⊎ IsBefore parts fence other

-- these are the fences that come before or after every other one, and each comes before those behind it
pub record IsChain (parts : Parts) (fences : List TxnId) : Type 0 where
  pub members : (id : TxnId) → Contains fences id ↔ IsChained parts id
  pub order : AllPairs (IsBefore parts) fences
