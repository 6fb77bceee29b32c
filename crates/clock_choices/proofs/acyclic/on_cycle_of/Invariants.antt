use Rattle.std.proofs.Common.{◌≡◌, ◌<◌}
use Rattle.txn.specs.declared.transactions.TxnId.{TxnId}
use Rattle.session_clocks.specs.Reach.{IsThere, Reaches}
use Rattle.clock_choices.proofs.acyclic.on_cycle_of.Given as goal

abbrev pub invariant-loop-number : goal.invariant-loop-number
invariant-loop-number l = (id : TxnId) → id.session ≡ l.session → IsThere l.graph.gone l.graph.received id → id.number < l.number → ¬ Reaches l.graph.gone l.graph.received l.graph.arcs id id
