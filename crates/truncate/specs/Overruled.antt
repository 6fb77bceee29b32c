-- For private clauses: last writers that are overruled by others.
use Rattle.std.specs.Prelude.{◌≡◌, ℕ, List}
use Rattle.std.specs.Ordering.{nat_cmp}
use Rattle.std.specs.FinMap.{FinMap, find, get}
use Rattle.txn.specs.declared.transactions.TxnId.{TxnId}
use Rattle.order_check.specs.Settled.{or_else}

-- each key's writer is that of the entries, where they have one, and else the old one
abbrev pub AreOverruled : List (ℕ × TxnId) → FinMap nat_cmp TxnId → FinMap nat_cmp TxnId → Type 0
AreOverruled entries old new = (key : ℕ) → get new key ≡ or_else (find nat_cmp key entries) (get old key)
