use Rattle.std.proofs.Common.{ℕ, All, Contains, take}
use Rattle.txn.specs.declared.transactions.TxnId.{TxnId}
use Rattle.session_clocks.specs.Reach.{Reaches}
use Rattle.clock_choices.specs.Index.{runs_of}
use Rattle.clock_choices.specs.Passing.{IsNotedInRuns}
use Rattle.clock_choices.proofs.passing.note_keys.Given as goal

abbrev pub invariant-loop-key : goal.invariant-loop-key
invariant-loop-key l = record {
  stay : (other : TxnId) → Contains l.initial.due other → Contains l.due other;
  noted : All (λ (key : ℕ). IsNotedInRuns (Reaches l.graph.gone l.graph.received l.graph.arcs) l.due (runs_of l.index.writers key) l.id) (take l.key-index l.keys);
}
