use Rattle.std.proofs.Common.{◌<◌}
use Rattle.txn.specs.declared.transactions.TxnId.{TxnId}
use Rattle.session_clocks.specs.Reach.{IsThere, Reaches}
use Rattle.clock_choices.proofs.acyclic.on_cycle.Given as goal

abbrev pub invariant-loop-session : goal.invariant-loop-session
invariant-loop-session l = (id : TxnId) → IsThere l.graph.gone l.graph.received id → id.session < l.session → ¬ Reaches l.graph.gone l.graph.received l.graph.arcs id id
