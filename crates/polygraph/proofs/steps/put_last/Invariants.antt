use Rattle.std.proofs.Common.{◌≡◌, ◌++◌, List, take}
use Rattle.txn.specs.declared.transactions.TxnId.{TxnId}
use Rattle.order_check.specs.Cycles.{sides_after}
use Rattle.refutation.specs.Above.{StandsBelow}
use Rattle.clock_choices.specs.BranchState.{all_taken, last_steps, taken_before}
use Rattle.polygraph.proofs.steps.put_last.Given as goal

abbrev pub invariant-loop-place : goal.invariant-loop-place
invariant-loop-place l = record {
  stands : (more : List (TxnId × TxnId)) → StandsBelow l.branch.parts (more ++ all_taken l.branch.log l.branch.levels) l.initial.above
      → StandsBelow l.branch.parts (more ++ sides_after (taken_before l.branch.log l.branch.levels) (take l.place (last_steps l.branch.log l.branch.levels))) l.above;
  tree : l.above.tree ≡ l.initial.above.tree;
}
