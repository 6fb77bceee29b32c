-- To none of the keys so far it applies.
use Rattle.std.proofs.Common.{◌≢◌, ℕ, ◌<◌, get_or}
use Rattle.txn.specs.declared.transactions.TheConstants.{EPOCH}
use Rattle.std.specs.Prelude.{Contains}
use Rattle.txn.specs.declared.transactions.Source.{Source}
use Rattle.demo_store.specs.Faults.{IsLost}
use Rattle.demo_store.proofs.faults.lost_update.Given as goal

abbrev pub invariant-loop-key : goal.invariant-loop-key
invariant-loop-key l = (k : ℕ) → k < l.key-index → get_or l.key-items k 0 ≢ EPOCH → ¬ (Contains l.request.writes (get_or l.key-items k 0) × ((source : Source) × IsLost l.log (get_or l.key-items k 0) source))
