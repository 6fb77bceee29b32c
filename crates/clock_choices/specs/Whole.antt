-- For private clauses: the graph of whole parts, as it is begun.
use Rattle.std.specs.Prelude.{◌≡◌, ◌↔◌, ℕ, List, [], All, Contains, length}
use Rattle.txn.specs.declared.transactions.TxnId.{TxnId}
use Rattle.txn.specs.declared.choices.Arc.{Arc}
use Rattle.order_check.specs.declared.remainder.Parts.{Parts}
use Rattle.order_check.specs.Based.{Remains}
use Rattle.order_check.specs.Cycles.{IsArc}
use Rattle.clock_choices.specs.Over.{IsOver}

-- it has what remains, and each arc is right
pub record IsGraphOf (parts : Parts) (gone received : List ℕ) (arcs : List Arc) : Type 0 where
  pub sessions : length gone ≡ length parts.remain
  pub width : length received ≡ length gone
  pub over : IsOver parts gone received
  pub right : All (IsArc parts []) arcs

-- all that remains, and nothing else
abbrev pub AreAll : Parts → List TxnId → Type 0
AreAll parts ids = (id : TxnId) → Contains ids id ↔ Remains parts id
