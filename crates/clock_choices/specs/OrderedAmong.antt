-- Transactions that are known to come before or after others.
use Rattle.std.specs.Prelude.{◌≡◌, ◌⊎◌, List, [], All}
use Rattle.txn.specs.declared.transactions.TxnId.{TxnId}
use Rattle.order_check.specs.declared.remainder.Parts.{Parts}
use Rattle.order_check.specs.Known.{Known}

-- they are one, or one is known to come before the other
abbrev pub AreOrdered : Parts → TxnId → TxnId → Type 0
AreOrdered parts id other = (id ≡ other) ⊎ (Known parts [] other id ⊎ Known parts [] id other)

-- it is, or comes before or after, each of these
abbrev pub IsOrderedAmong : Parts → List TxnId → TxnId → Type 0
IsOrderedAmong parts others id = All (AreOrdered parts id) others
