-- What a contract sees of a graph.
use Rattle.std.specs.Prelude.{◌≡◌, ◌≢◌, ℕ, ◌+◌, List, [], ◌∷◌, Option, Some, None, take, length, slice_index}
use Rattle.txn.specs.declared.transactions.TxnId.{TxnId}
use Rattle.txn.specs.declared.choices.Arc.{Arc}
use Rattle.session_clocks.specs.Reach.{IsThere}

-- for each session how many of it are gone, and how many were received, the gone ones among them; the arcs in the order in which they came;
-- and for each mark, the last first, how many arcs there were when it was set
pub record GraphState : Type 0 where
  pub gone : List ℕ
  pub received : List ℕ
  pub arcs : List Arc
  pub marks : List ℕ

-- the graph as it stood at the last of these marks, before the mark was set
abbrev pub back_to : GraphState → List ℕ → GraphState
back_to graph [] = graph
back_to graph (mark ∷ marks) = record { gone = graph.gone; received = graph.received; arcs = take mark graph.arcs; marks = marks }

-- the graph where it has a mark
abbrev pub where_marked : List ℕ → GraphState → Option GraphState
where_marked [] graph = None
where_marked (mark ∷ marks) graph = Some graph

-- what going back leaves, where a mark is set
abbrev pub last_mark : GraphState → Option GraphState
last_mark graph = where_marked graph.marks (back_to graph graph.marks)

-- the transaction is there
abbrev pub HasNode : GraphState → TxnId → Type 0
HasNode graph id = IsThere graph.gone graph.received id

-- one more of this session was received, and no more of another
pub record IsOneMore (old new : List ℕ) (session : ℕ) : Type 0 where
  pub sessions : length new ≡ length old
  pub one : slice_index new session ≡ slice_index old session + 1
  pub others : (other : ℕ) → other ≢ session → slice_index new other ≡ slice_index old other
