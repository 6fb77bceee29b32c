use Rattle.std.proofs.Common.{◌≡◌, ◌++◌, List, take}
use Rattle.txn.specs.declared.choices.Arc.{Arc}
use Rattle.clock_choices.specs.Cycling.{AreLookedUp}
use Rattle.clock_choices.proofs.cycles.push_right_arcs.Given as goal

abbrev pub invariant-loop-arc : goal.invariant-loop-arc
invariant-loop-arc l = (more : List Arc) × (l.found.items ≡ l.initial.found.items ++ more) × AreLookedUp l.parts (take l.arc-index l.path) more
