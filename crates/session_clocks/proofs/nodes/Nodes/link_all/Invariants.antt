use Rattle.std.proofs.Common.{◌≡◌}
use Rattle.session_clocks.specs.Nodes.{AreSameNodes}
use Rattle.session_clocks.proofs.nodes.Nodes.link_all.Given as goal

abbrev pub invariant-loop-place : goal.invariant-loop-place
invariant-loop-place l = record {
  nodes : AreSameNodes l.initial.self.nodes.slots l.self.nodes.slots;
  keys : l.self.keys ≡ l.initial.self.keys;
}
