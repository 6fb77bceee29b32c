use Rattle.std.proofs.Common.{◌⊎◌, ◌≤◌, length, Contains}
use Rattle.txn.specs.declared.transactions.TxnId.{TxnId}
use Rattle.clock_choices.proofs.spread.note_every.Given as goal

abbrev pub invariant-loop-left : goal.invariant-loop-left
invariant-loop-left l = record {
  among : (id : TxnId) → Contains l.due id → Contains l.initial.due id ⊎ Contains l.ids id;
  within : l.left ≤ length l.ids;
}

abbrev pub decreases-loop-left : goal.decreases-loop-left
decreases-loop-left l = l.left
