use Rattle.std.proofs.Common.{ℕ, ◌≤◌, ◌<◌, length, get_or}
use Rattle.txn.specs.declared.transactions.Source.{Source}
use Rattle.clock_choices.specs.UpTo.{IsToCome}
use Rattle.clock_choices.proofs.by_sources.ready_reads.Given as goal

abbrev pub invariant-loop-place : goal.invariant-loop-place
invariant-loop-place l = record {
  from : l.from ≤ l.place;
  each : (k : ℕ) (d : ℕ × Source) → l.from ≤ k → k < l.place → k < length l.reads → ¬ IsToCome l.parts l.graph l.session (get_or l.reads k d).1;
}
