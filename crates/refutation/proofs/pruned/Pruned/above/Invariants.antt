use Rattle.std.proofs.Common.{◌≡◌, List, take}
use Rattle.txn.specs.declared.transactions.TxnId.{TxnId}
use Rattle.order_check.specs.declared.remainder.Parts.{Parts}
use Rattle.order_check.specs.Cycles.{AreForced, sides_after}
use Rattle.refutation.specs.Above.{StandsBelow}
use Rattle.refutation.proofs.pruned.Pruned.above.Given as goal

-- below the steps that were looked at stands the tree where the sides of those left are taken
abbrev pub invariant-loop-place : goal.invariant-loop-place
invariant-loop-place l = record {
  stands : (parts : Parts) (taken : List (TxnId × TxnId)) → AreForced parts taken l.steps → StandsBelow parts (sides_after taken l.steps) l.initial.above → StandsBelow parts (sides_after taken (take l.place l.steps)) l.above;
  tree : l.above.tree ≡ l.initial.above.tree;
}
