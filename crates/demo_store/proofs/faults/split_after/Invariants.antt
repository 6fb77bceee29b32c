-- None of the keys so far is written by the lower one's last writer alone.
use Rattle.std.proofs.Common.{ℕ, ◌<◌, get_or}
use Rattle.demo_store.specs.Faults.{IsSplit}
use Rattle.demo_store.proofs.faults.split_after.Given as goal

abbrev pub invariant-loop-key : goal.invariant-loop-key
invariant-loop-key l = (k : ℕ) → k < l.key-index → ¬ IsSplit l.log l.lower (get_or l.keys k 0)
