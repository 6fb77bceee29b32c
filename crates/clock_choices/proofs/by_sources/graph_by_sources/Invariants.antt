use Rattle.std.proofs.Common.{◌≡◌, length, take, All}
use Rattle.session_clocks.specs.Graphs.{HasNode}
use Rattle.clock_choices.specs.UpTo.{IsGraphUpTo}
use Rattle.clock_choices.proofs.by_sources.graph_by_sources.Given as goal

abbrev pub invariant-loop-id : goal.invariant-loop-id
invariant-loop-id l = record {
  up : IsGraphUpTo l.parts l.graph;
  ready : length l.ready.items ≡ length l.parts.remain;
  there : All (HasNode l.graph) (take l.id-index l.ids);
}
