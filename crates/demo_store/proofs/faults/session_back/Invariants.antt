-- To none of the keys so far it applies.
use Rattle.std.proofs.Common.{◌≢◌, ℕ, ◌<◌, get_or}
use Rattle.txn.specs.declared.transactions.TheConstants.{EPOCH}
use Rattle.demo_store.specs.Faults.{HasWritten}
use Rattle.demo_store.proofs.faults.session_back.Given as goal

abbrev pub invariant-loop-key : goal.invariant-loop-key
invariant-loop-key l = (k : ℕ) → k < l.key-index → get_or l.key-items k 0 ≢ EPOCH → ¬ HasWritten l.log l.request.session (get_or l.key-items k 0)
