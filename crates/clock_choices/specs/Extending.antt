-- For private clauses: a graph to which arcs are added.
use Rattle.std.specs.Prelude.{◌≡◌}
use Rattle.txn.specs.declared.transactions.TxnId.{TxnId}
use Rattle.session_clocks.specs.Graphs.{GraphState, last_mark}
use Rattle.session_clocks.specs.Reach.{Reaches}

-- what reaches what in a graph
abbrev pub reached_in : GraphState → TxnId → TxnId → Type 0
reached_in graph = Reaches graph.gone graph.received graph.arcs

-- it has the same transactions, and going back leaves the same graph
pub record Extends (old new : GraphState) : Type 0 where
  pub gone : new.gone ≡ old.gone
  pub received : new.received ≡ old.received
  pub last : last_mark new ≡ last_mark old
