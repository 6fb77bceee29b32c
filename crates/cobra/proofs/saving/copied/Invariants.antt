-- the copies are of the transactions so far
use Rattle.std.proofs.Common.{◌≡◌, take}
use Rattle.cobra.proofs.saving.copied.Given as goal

abbrev pub invariant-loop-txn : goal.invariant-loop-txn
invariant-loop-txn l = l.copies.items ≡ take l.txn-index l.txns
