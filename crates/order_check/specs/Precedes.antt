-- What stands before what in an order.
use Rattle.std.specs.Prelude.{List, []}
use Rattle.list_lemmas.specs.Precedes.{Precedes}
use Rattle.txn.specs.declared.transactions.TxnId.{TxnId}
use Rattle.order_check.specs.declared.remainder.Parts.{Parts}
use Rattle.order_check.specs.Based.{HasGoneBase}
use Rattle.order_check.specs.Explains.{Explains}
use Rattle.order_check.specs.Known.{Known}

-- where each last gone writer is gone, every order that explains the parts keeps the known relation
abbrev pub KeepsKnown : Type 0
KeepsKnown = (parts : Parts) (order : List TxnId) (a b : TxnId) → HasGoneBase parts → Explains parts order → Known parts [] a b → Precedes order a b

-- where each last gone writer is gone, and a transaction is known to come before itself, no order explains the parts
abbrev pub CycleLeavesNoOrder : Type 0
CycleLeavesNoOrder = (parts : Parts) (order : List TxnId) (id : TxnId) → HasGoneBase parts → Known parts [] id id → ¬ Explains parts order
