use Rattle.std.proofs.Common.{ℕ, ◌<◌, ◌≤◌, get_or}
use Rattle.txn.specs.declared.choices.Arc.{Arc}
use Rattle.txn.specs.Arcs.{start_of, end_of}
use Rattle.session_clocks.specs.Reach.{Reaches}
use Rattle.clock_choices.proofs.acyclic.on_new_cycle.Given as goal

abbrev pub invariant-loop-place : goal.invariant-loop-place
invariant-loop-place l = (k : ℕ) (d : Arc) → l.from ≤ k → k < l.place → ¬ Reaches l.graph.gone l.graph.received l.graph.arcs (end_of (get_or l.arcs k d)) (start_of (get_or l.arcs k d))
