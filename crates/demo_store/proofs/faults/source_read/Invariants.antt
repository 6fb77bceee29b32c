-- None of the reads so far is of the key.
use Rattle.std.proofs.Common.{◌≢◌, ℕ, ◌<◌, get_or}
use Rattle.txn.specs.declared.transactions.Source.{Source}
use Rattle.demo_store.proofs.faults.source_read.Given as goal

abbrev pub invariant-loop-read : goal.invariant-loop-read
invariant-loop-read l = (k : ℕ) (d : ℕ × Source) → k < l.read-index → (get_or l.read-items k d).0 ≢ l.key
