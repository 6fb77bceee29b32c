use Rattle.std.proofs.Common.{◌≡◌}
use Rattle.clock_choices.specs.Nodes.{HaveMore}
use Rattle.clock_choices.proofs.nodes.add_nodes.Given as goal

abbrev pub invariant-loop-done : goal.invariant-loop-done
invariant-loop-done l = record {
  gone : l.graph.gone ≡ l.initial.graph.gone;
  arcs : l.graph.arcs ≡ l.initial.graph.arcs;
  received : HaveMore l.initial.graph.received l.graph.received l.session l.done;
}
