use Rattle.std.proofs.Common.{◌≡◌, map, take}
use Rattle.serde_json.specs.View.{view}
use Rattle.log_text.specs.Told.{arc_data}
use Rattle.log_text.proofs.trees.push_cycle.Given as goal

abbrev pub invariant-loop-arc : goal.invariant-loop-arc
invariant-loop-arc l = map view l.list.items ≡ map (arc_data l.names) (take l.arc-index l.arcs)
