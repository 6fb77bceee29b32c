-- For private clauses: ids picked out of a list, and fences put in known order.
use Rattle.std.specs.Prelude.{◌≡◌, ◌≤◌, ◌⊎◌, ◌↔◌, ℕ, true, Contains, List, [], ◌∷◌, ◌++◌, length}
use Rattle.std.specs.List.{AllPairs, AllWithin}
use Rattle.txn.specs.declared.transactions.TxnId.{TxnId}
use Rattle.txn.specs.Transactions.{id_below}
use Rattle.order_check.specs.declared.remainder.Parts.{Parts}
use Rattle.order_check.specs.Settled.{IsBefore}

-- each id is below those behind it
abbrev pub AreInOrder : List TxnId → Type 0
AreInOrder ids = AllPairs (λ a b. id_below a b ≡ true) ids

-- of the ids these are the ones with the property, in order
pub record IsPicked (Has : TxnId → Type 0) (ids picked : List TxnId) : Type 0 where
  pub members : (id : TxnId) → Contains picked id ↔ (Contains ids id × Has id)
  pub rise : AreInOrder picked

-- the id goes to the end where it has the property
abbrev pub PicksOne : (TxnId → Type 0) → TxnId → List TxnId → List TxnId → Type 0
PicksOne Has id old new = (Has id × (new ≡ old ++ id ∷ [])) ⊎ ((¬ Has id) × (new ≡ old))

-- those ahead of the first place come before the fence, and those from the second on come after it
pub record IsBetween (parts : Parts) (fence : TxnId) (chain : List TxnId) (low high : ℕ) : Type 0 where
  pub rise : low ≤ high
  pub within : high ≤ length chain
  pub before : AllWithin (λ other. IsBefore parts other fence) chain 0 low
  pub after : AllWithin (IsBefore parts fence) chain high (length chain)

-- the fence is one more, and each comes before those behind it
pub record IsPutIn (parts : Parts) (fence : TxnId) (old new : List TxnId) : Type 0 where
  pub members : (id : TxnId) → Contains new id ↔ (Contains old id ⊎ (fence ≡ id))
  pub order : AllPairs (IsBefore parts) new

-- the same ids, each known to come before those behind it
pub record IsSorting (parts : Parts) (ids sorted : List TxnId) : Type 0 where
  pub members : (id : TxnId) → Contains sorted id ↔ Contains ids id
  pub order : AllPairs (IsBefore parts) sorted
