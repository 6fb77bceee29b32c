-- Entries in order of their keys.
use Rattle.std.specs.BTreeMap as tree
use Rattle.std.specs.BTreeMap.{BTreeMap}
use Rattle.std.specs.Prelude.{ℕ, List, ◌⊎◌, IsSome}
use Rattle.std.specs.List.Sorted.{IsStrictlySortedBy}
use Rattle.std.specs.Map.{keys_of}
use Rattle.std.specs.Ordering.{nat_cmp}
use Rattle.txn.specs.declared.transactions.TxnId.{TxnId}
use Rattle.order_check.specs.Rules.{IsBelowMark}

-- each entry's key is below those of the entries after it
abbrev pub IsRising : List (ℕ × TxnId) → Type 0
IsRising entries = IsStrictlySortedBy nat_cmp (keys_of entries)

-- the map has the entry's key, or the entry's writer is below the mark of its session
unfoldable pub IsHiddenOrBelow : List ℕ → BTreeMap ℕ TxnId → ℕ × TxnId → Type 0
IsHiddenOrBelow marks newer entry = IsSome (tree.get nat_cmp newer entry.0) ⊎ IsBelowMark marks entry.1
