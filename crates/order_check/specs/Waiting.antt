-- For private clauses: reads that wait for a transaction that isn't received.
use Rattle.std.specs.Prelude.{List, Any}
use Rattle.txn.specs.declared.transactions.Source.{Source}
use Rattle.txn.specs.declared.transactions.Source.TheVariants.{Init, By}
use Rattle.txn.specs.declared.transactions.Txn.{Txn}
use Rattle.order_check.specs.declared.remainder.Parts.{Parts}
use Rattle.order_check.specs.Based.{IsReceived}

-- the source is an id that isn't received
abbrev pub IsAwaited : Parts → Source → Type 0
IsAwaited parts Init = ⊥
IsAwaited parts (By writer) = ¬ IsReceived parts writer

-- some read of the transaction waits
abbrev pub Waits : Parts → Txn → Type 0
Waits parts txn = Any (λ read. IsAwaited parts read.1) txn.reads

-- some transaction of these waits
abbrev pub SomeWaits : Parts → List Txn → Type 0
SomeWaits parts txns = Any (Waits parts) txns
