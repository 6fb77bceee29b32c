use Rattle.std.proofs.Common.{◌≡◌, ◌+◌}
use Rattle.order_check.specs.Rules.{AreGoodBelow}
use Rattle.order_check.proofs.rules.are_good.Given as goal

abbrev pub invariant-loop-txn : goal.invariant-loop-txn
invariant-loop-txn l = record {
  next : l.number ≡ l.first + l.txn-index;
  so_far : AreGoodBelow l.sessions l.session l.first l.txns l.txn-index;
}
