-- For private clauses: lists by key.
use Rattle.std.specs.Prelude.{ℕ, List, [], Option, Some, None, Vec}
use Rattle.std.specs.declared.alloc.Global.{Global}
use Rattle.std.specs.BTreeMap.{BTreeMap, get}
use Rattle.std.specs.Ordering.{nat_cmp}

-- the items of a list that may be wanting
abbrev pub items_in : {X : Type 0} → Option (Vec X Global) → List X
items_in None = []
items_in (Some list) = list.items

-- the list of a key, without an item where there is none
abbrev pub list_at : {X : Type 0} → BTreeMap ℕ (Vec X Global) → ℕ → List X
list_at lists key = items_in (get nat_cmp lists key)
