-- For private clauses: a relation that catches up with more parts.
use Rattle.std.specs.Prelude.{ℕ, List, slice_index}
use Rattle.txn.specs.declared.transactions.TxnId.{TxnId}
use Rattle.txn.specs.declared.choices.Arc.{Arc}
use Rattle.order_check.specs.declared.remainder.Parts.{Parts}
use Rattle.clock_choices.specs.declared.steps.Forced.{Forced}
use Rattle.clock_choices.specs.Growth.{AreIdsFrom, AreMore}
use Rattle.clock_choices.specs.Held.{IsHeld}
use Rattle.clock_choices.specs.Nodes.{HaveMore}
use Rattle.clock_choices.specs.Over.{IsOver}

-- the relation is that of parts over so many of each session as were received then; these are the transactions by which there are more, all
-- of one session, of which the graph has the nodes
pub record GoesOn (parts more : Parts) (gone few received : List ℕ) (arcs : List Arc) (steps : List Forced) (session count : ℕ) (new : List TxnId) : Type 0 where
  pub are : AreMore parts more
  pub held : IsHeld parts gone few arcs steps
  pub nodes : HaveMore few received session count
  pub ids : AreIdsFrom session (slice_index few session) count new
  pub over : IsOver more gone received
