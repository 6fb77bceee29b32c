-- For private clauses: what a branch keeps at all times.
use Rattle.std.specs.Prelude.{◌≡◌, ◌↔◌, List, Some, [], ◌∷◌, map, Contains}
use Rattle.txn.specs.declared.transactions.TxnId.{TxnId}
use Rattle.txn.specs.declared.choices.Choice.{Choice}
use Rattle.txn.specs.declared.choices.Side.{Side}
use Rattle.order_check.specs.declared.remainder.Parts.{Parts}
use Rattle.order_check.specs.Based.{Remains}
use Rattle.order_check.specs.Cycles.{AreNew, Sides}
use Rattle.order_check.specs.Good.{IsGood}
use Rattle.order_check.specs.Known.{IsChoice}
use Rattle.session_clocks.specs.Graphs.{GraphState, last_mark}
use Rattle.clock_choices.specs.declared.branch.Seen.{Seen}
use Rattle.clock_choices.specs.declared.branch.Top.{Top}
use Rattle.clock_choices.specs.declared.indexing.Index.{Index}
use Rattle.clock_choices.specs.declared.steps.Forced.{Forced}
use Rattle.clock_choices.specs.Acyclic.{AreAcyclic}
use Rattle.clock_choices.specs.BranchState.{Level, all_taken, arc_of, assumed}
use Rattle.clock_choices.specs.Extending.{reached_in}
use Rattle.clock_choices.specs.Held.{IsHeldFrom}
use Rattle.clock_choices.specs.Indexing.{AreInOrder, IsIndex}
use Rattle.clock_choices.specs.Opens.{ArePassed}
use Rattle.clock_choices.specs.Steps.{bare, sides_behind}

-- these, one after another, on top of others: the last first
abbrev pub stack_onto : List Top → List Top → List Top
stack_onto stack [] = stack
stack_onto stack (top ∷ tops) = stack_onto (top ∷ stack) tops

-- what contracts see of a side that is assumed
abbrev pub level_of : Top → Level
level_of top = record { choice = top.assumed.choice; side = top.assumed.side; steps = map bare top.steps.items }

abbrev pub levels_of : List Top → List Level
levels_of stack = map level_of stack

-- the sides that were taken when the steps of the last side assumed began; where none is assumed, none was
abbrev pub start_of_last : List Forced → List Top → Sides
start_of_last log [] = []
start_of_last log (top ∷ stack) = arc_of top.assumed.choice top.assumed.side ∷ all_taken (map bare log) (levels_of stack)

-- the steps of the last side assumed; where none is, those forced before
abbrev pub steps_of_last : List Forced → List Top → List Forced
steps_of_last log [] = log
steps_of_last log (top ∷ stack) = top.steps.items

-- the relation where these sides are assumed
abbrev pub IsRelationAt : Parts → List Forced → List Top → GraphState → Type 0
IsRelationAt parts log stack graph = IsHeldFrom parts (assumed (levels_of stack)) (start_of_last log stack) graph.gone graph.received graph.arcs (steps_of_last log stack)

-- the graph has one more side, and these steps that it forces, each of them new
abbrev pub IsMoreBy : Parts → GraphState → GraphState → Choice → Side → List Forced → Type 0
IsMoreBy parts old new choice side steps = (taken start : Sides) (log : List Forced) → IsHeldFrom parts taken start old.gone old.received old.arcs log
    → IsHeldFrom parts (arc_of choice side ∷ taken) (arc_of choice side ∷ sides_behind start log) new.gone new.received new.arcs steps × AreNew parts (arc_of choice side ∷ sides_behind start log) (map bare steps)

-- what was seen holds: the first so many of the transactions have no open choice, and so many arcs at the front make no cycle
pub record IsSeen (parts : Parts) (ids : List TxnId) (graph : GraphState) (seen : Seen) : Type 0 where
  pub passed : ArePassed parts (reached_in graph) ids seen.passed
  pub acyclic : AreAcyclic graph.gone graph.received graph.arcs seen.acyclic

-- what was seen before the last side was assumed; where none is, nothing
abbrev pub seen_of_last : List Top → Seen
seen_of_last [] = record { passed = 0; acyclic = 0 }
seen_of_last (top ∷ stack) = top.assumed.seen

-- The graph has the relation of the last side, which is one of a choice. Where it goes back to its last mark it has that of the sides
-- below, of which that was seen.
abbrev pub AreStacked : Parts → List TxnId → List Forced → List Top → GraphState → Type 0
AreStacked parts ids log [] graph = IsRelationAt parts log [] graph
AreStacked parts ids log (top ∷ stack) graph = IsRelationAt parts log (top ∷ stack) graph
    × ((before : GraphState) × (last_mark graph ≡ Some before) × AreStacked parts ids log stack before × IsSeen parts ids before top.assumed.seen) × IsChoice parts top.assumed.choice

-- these are the ids of what remains, what is looked up is that of the parts, and the graph has the relation of each side, on top of those below
pub record IsBranch (parts : Parts) (ids : List TxnId) (log : List Forced) (index : Index) (graph : GraphState) (tops : List Top) : Type 0 where
  pub good : IsGood parts
  pub members : (id : TxnId) → Contains ids id ↔ Remains parts id
  pub rise : AreInOrder ids
  pub looked_up : IsIndex parts index
  pub stacked : AreStacked parts ids log (stack_onto [] tops) graph
