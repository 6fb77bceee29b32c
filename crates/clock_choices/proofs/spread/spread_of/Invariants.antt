use Rattle.std.proofs.Common.{Contains}
use Rattle.txn.specs.declared.transactions.TxnId.{TxnId}
use Rattle.clock_choices.proofs.spread.spread_of.Given as goal

abbrev pub invariant-loop-step : goal.invariant-loop-step
invariant-loop-step l = (id : TxnId) → Contains l.due id → Contains l.ids id

abbrev pub decreases-loop-step : goal.decreases-loop-step
decreases-loop-step l = l.step
