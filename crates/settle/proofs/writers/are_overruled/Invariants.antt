use Rattle.std.proofs.Common.{ℕ, ◌<◌, get_or}
use Rattle.txn.specs.declared.transactions.TxnId.{TxnId}
use Rattle.settle.specs.Writers.{IsOverruled}
use Rattle.settle.proofs.writers.are_overruled.Given as goal

abbrev pub invariant-loop-write : goal.invariant-loop-write
invariant-loop-write l = (k : ℕ) (d : ℕ × TxnId) → k < l.write-index → IsOverruled l.known.parts l.last (get_or l.writes k d)
