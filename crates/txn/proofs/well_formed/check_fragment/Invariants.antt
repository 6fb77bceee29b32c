use Rattle.std.proofs.Common.{◌≡◌, ◌+◌}
use Rattle.txn.specs.Transactions.{IsWellFormedBelow}
use Rattle.txn.proofs.well_formed.check_fragment.Given as goal

abbrev pub invariant-loop-txn : goal.invariant-loop-txn
invariant-loop-txn l = record {
  next : l.number ≡ l.fragment.first + l.txn-index;
  so_far : IsWellFormedBelow l.sessions l.fragment l.txn-index;
}
