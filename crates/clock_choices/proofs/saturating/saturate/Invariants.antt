use Rattle.std.proofs.Common.{ℕ, Contains}
use Rattle.txn.specs.declared.transactions.TxnId.{TxnId}
use Rattle.order_check.specs.declared.remainder.Parts.{Parts}
use Rattle.clock_choices.specs.Extending.{Extends, reached_in}
use Rattle.clock_choices.specs.Forcing.{Forces}
use Rattle.clock_choices.specs.Index.{AreReadsOf, AreRunsOf, reads_of, runs_of}
use Rattle.clock_choices.specs.Pending.{IsClosedBut}
use Rattle.clock_choices.proofs.saturating.saturate.Given as goal

abbrev pub invariant-loop-turn : goal.invariant-loop-turn
invariant-loop-turn l = record {
  extends : Extends l.initial.graph l.graph;
  forces : (parts : Parts) → ((key : ℕ) → AreRunsOf parts key (runs_of l.writers key)) → ((id : TxnId) → AreReadsOf parts id (reads_of l.reads id)) → Forces parts l.initial.graph l.initial.steps.items l.graph l.steps.items;
  closed : (parts : Parts) → ((key : ℕ) → AreRunsOf parts key (runs_of l.writers key)) → ((id : TxnId) → AreReadsOf parts id (reads_of l.reads id)) → IsClosedBut parts (reached_in l.initial.graph) (λ id. Contains l.initial.batch id)
      → IsClosedBut parts (reached_in l.graph) (λ id. Contains l.batch id);
}
