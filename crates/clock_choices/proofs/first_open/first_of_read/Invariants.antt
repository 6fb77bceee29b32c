use Rattle.std.proofs.Common.{take}
use Rattle.order_check.specs.declared.remainder.Parts.{Parts}
use Rattle.order_check.specs.Known.{WritesKey}
use Rattle.clock_choices.specs.Adds.{Among}
use Rattle.clock_choices.specs.Extending.{reached_in}
use Rattle.clock_choices.specs.Index.{AreRunsOf, IsRead}
use Rattle.clock_choices.specs.Opens.{IsOfRun, NoneOpen}
use Rattle.clock_choices.proofs.first_open.first_of_read.Given as goal

abbrev pub invariant-loop-run : goal.invariant-loop-run
invariant-loop-run l = (parts : Parts) → AreRunsOf parts l.read.key l.runs → IsRead parts l.read → WritesKey parts l.read.writer l.read.key → NoneOpen parts (reached_in l.graph) (Among (IsOfRun l.read) (take l.run-index l.runs))
