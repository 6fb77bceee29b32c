use Rattle.std.proofs.Common.{All, Contains, take}
use Rattle.txn.specs.declared.transactions.TxnId.{TxnId}
use Rattle.session_clocks.specs.Reach.{Reaches}
use Rattle.clock_choices.specs.Growth.{IsNotedFor}
use Rattle.clock_choices.proofs.passing.note_txns.Given as goal

abbrev pub invariant-loop-id : goal.invariant-loop-id
invariant-loop-id l = record {
  stay : (other : TxnId) → Contains l.initial.due other → Contains l.due other;
  noted : All (IsNotedFor l.parts (Reaches l.graph.gone l.graph.received l.graph.arcs) (Contains l.due)) (take l.id-index l.ids);
}
