use Rattle.std.proofs.Common.{◌≡◌, ℕ, List}
use Rattle.clock_choices.specs.Nodes.{HaveMore}
use Rattle.clock_choices.proofs.nodes.remove_nodes.Given as goal

abbrev pub invariant-loop-left : goal.invariant-loop-left
invariant-loop-left l = record {
  gone : l.graph.gone ≡ l.initial.graph.gone;
  arcs : l.graph.arcs ≡ l.initial.graph.arcs;
  received : (few : List ℕ) → HaveMore few l.initial.graph.received l.session l.count → HaveMore few l.graph.received l.session l.left;
}
