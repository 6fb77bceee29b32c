-- What a check of a history says, where a part of the history is gone.
use Rattle.std.specs.Prelude.{List}
use Rattle.txn.specs.declared.transactions.TxnId.{TxnId}
use Rattle.order_check.specs.declared.remainder.Parts.{Parts}
use Rattle.order_check.specs.declared.remainder.Kind.{Kind}
use Rattle.order_check.specs.declared.remainder.Kind.TheVariants.{Serial, Pending, Violated, Spent}
use Rattle.order_check.specs.Based.{HasPending}
use Rattle.order_check.specs.Explains.{Explains}

abbrev pub HasOrder : Parts → Type 0
HasOrder parts = (order : List TxnId) × Explains parts order

-- Violated where no order explains the parts; else pending where some read is pending; else serial. It is never spent.
abbrev pub IsVerdict : Parts → Kind → Type 0
IsVerdict parts Violated = ¬ HasOrder parts
IsVerdict parts Pending = HasOrder parts × HasPending parts
IsVerdict parts Serial = HasOrder parts × (¬ HasPending parts)
IsVerdict parts Spent = ⊥
