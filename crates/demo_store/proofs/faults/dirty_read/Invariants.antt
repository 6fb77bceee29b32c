-- To none of the keys so far it applies.
use Rattle.std.proofs.Common.{◌≢◌, ℕ, ◌<◌, get_or}
use Rattle.txn.specs.declared.transactions.TheConstants.{EPOCH}
use Rattle.txn.specs.declared.transactions.Source.{Source}
use Rattle.demo_store.specs.Faults.{IsDirty}
use Rattle.demo_store.proofs.faults.dirty_read.Given as goal

abbrev pub invariant-loop-key : goal.invariant-loop-key
invariant-loop-key l = (k : ℕ) → k < l.key-index → get_or l.key-items k 0 ≢ EPOCH → ¬ ((source : Source) × IsDirty l.log (get_or l.key-items k 0) source)
