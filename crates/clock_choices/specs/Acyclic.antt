-- For private clauses: graphs in which nothing leads back to itself.
use Rattle.std.specs.Prelude.{◌<◌, ◌≤◌, ℕ, List, length, take, slice_index_or}
use Rattle.txn.specs.declared.transactions.TxnId.{TxnId}
use Rattle.txn.specs.declared.choices.Arc.{Arc}
use Rattle.txn.specs.Arcs.{start_of, end_of}
use Rattle.order_check.specs.declared.remainder.Parts.{Parts}
use Rattle.order_check.specs.Cycles.{IsCycle, Sides}
use Rattle.session_clocks.specs.Paths.{IsPathOf}
use Rattle.session_clocks.specs.Reach.{IsThere, Reaches}
use Rattle.clock_choices.specs.Logging.{AreRight}

-- nothing that is there reaches itself
abbrev pub HasNoCycle : List ℕ → List ℕ → List Arc → Type 0
HasNoCycle gone received arcs = (id : TxnId) → IsThere gone received id → ¬ Reaches gone received arcs id id

-- it is there, and reaches itself
abbrev pub IsOnCycle : List ℕ → List ℕ → List Arc → TxnId → Type 0
IsOnCycle gone received arcs id = IsThere gone received id × Reaches gone received arcs id id

-- the path leads from a transaction to itself, along arcs at the front
abbrev pub IsRound : List ℕ → List ℕ → List Arc → List Arc → Type 0
IsRound gone received arcs path = (front : ℕ) × (id : TxnId) × IsPathOf gone received (take front arcs) id path id

-- there are so many arcs at the front, and by these alone nothing reaches itself
pub record AreAcyclic (gone received : List ℕ) (arcs : List Arc) (front : ℕ) : Type 0 where
  pub within : front ≤ length arcs
  pub none : HasNoCycle gone received (take front arcs)

-- from the end of no arc from this place on is its start reached
abbrev pub AddsNoCycle : List ℕ → List ℕ → List Arc → ℕ → Type 0
AddsNoCycle gone received arcs front = (k : ℕ) (d : Arc) → front ≤ k → k < length arcs → ¬ Reaches gone received arcs (end_of (slice_index_or arcs k d)) (start_of (slice_index_or arcs k d))

-- something that is there reaches itself; and the cycle is one of right arcs, whatever sides make the graph's arcs right
pub record IsCycleOf (parts : Parts) (gone received : List ℕ) (arcs cycle : List Arc) : Type 0 where
  pub on : (id : TxnId) × IsOnCycle gone received arcs id
  pub right : (sides : Sides) → AreRight parts sides arcs → IsCycle parts sides cycle
