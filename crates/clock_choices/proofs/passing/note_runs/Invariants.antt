use Rattle.std.proofs.Common.{All, Contains, take}
use Rattle.txn.specs.declared.transactions.TxnId.{TxnId}
use Rattle.session_clocks.specs.Reach.{Reaches}
use Rattle.clock_choices.specs.Passing.{IsNotedInRun}
use Rattle.clock_choices.proofs.passing.note_runs.Given as goal

abbrev pub invariant-loop-run : goal.invariant-loop-run
invariant-loop-run l = record {
  stay : (other : TxnId) → Contains l.initial.due other → Contains l.due other;
  noted : All (IsNotedInRun (Reaches l.graph.gone l.graph.received l.graph.arcs) l.due l.id l.earlier) (take l.run-index l.runs);
}
