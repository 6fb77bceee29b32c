use Rattle.std.proofs.Common.{ℕ, [], All, take}
use Rattle.txn.specs.declared.transactions.TxnId.{TxnId}
use Rattle.order_check.specs.declared.remainder.Parts.{Parts}
use Rattle.clock_choices.specs.Extending.{Extends, reached_in}
use Rattle.clock_choices.specs.Forcing.{Forces, IsGrowth}
use Rattle.clock_choices.specs.Index.{AreReadsOf, AreRunsOf, reads_of, runs_of}
use Rattle.clock_choices.specs.Stages.{IsTurnSettled}
use Rattle.clock_choices.proofs.saturating.settle_batch.Given as goal

abbrev pub invariant-loop-id : goal.invariant-loop-id
invariant-loop-id l = record {
  extends : Extends l.initial.graph l.graph;
  growth : IsGrowth (reached_in l.initial.graph) [] (reached_in l.graph) l.due;
  forces : (parts : Parts) → ((key : ℕ) → AreRunsOf parts key (runs_of l.writers key)) → ((id : TxnId) → AreReadsOf parts id (reads_of l.reads id)) → Forces parts l.initial.graph l.initial.steps.items l.graph l.steps.items;
  settled : (parts : Parts) → ((key : ℕ) → AreRunsOf parts key (runs_of l.writers key)) → ((id : TxnId) → AreReadsOf parts id (reads_of l.reads id)) → All (IsTurnSettled parts (reached_in l.graph) l.due l.batch) (take l.id-index l.ids);
}
