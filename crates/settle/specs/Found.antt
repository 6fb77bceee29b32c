-- The cut that is found in parts, or that there is none.
use Rattle.std.specs.Prelude.{Option, Some, None}
use Rattle.txn.specs.declared.transactions.TxnId.{TxnId}
use Rattle.order_check.specs.declared.remainder.Parts.{Parts}
use Rattle.order_check.specs.Settled.{IsSettled, IsLastSettled, IsCutAt}
use Rattle.order_check.specs.StandsFor.{IsOpenSession}
use Rattle.settle.specs.declared.cuts.Cut.{Cut}

-- it is that of the settled fence that comes after all other settled ones, or none where no fence is settled
abbrev pub IsFound : Parts → Option Cut → Type 0
IsFound parts None = (fence : TxnId) → ¬ IsSettled parts (IsOpenSession parts) fence
IsFound parts (Some cut) = IsLastSettled parts (IsOpenSession parts) cut.fence × IsCutAt parts cut.fence cut.gone cut.last
