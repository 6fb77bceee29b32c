use Rattle.std.proofs.Common.{take}
use Rattle.clock_choices.specs.Picks.{AreRunsOfIds}
use Rattle.clock_choices.proofs.among.runs_of_each.Given as goal

abbrev pub invariant-loop-id : goal.invariant-loop-id
invariant-loop-id l = AreRunsOfIds (take l.id-index l.ids) l.runs.items
