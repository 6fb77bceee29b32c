use Rattle.std.proofs.Common.{List, take}
use Rattle.txn.specs.declared.choices.Choice.{Choice}
use Rattle.order_check.specs.declared.remainder.Parts.{Parts}
use Rattle.order_check.specs.Known.{WritesKey}
use Rattle.clock_choices.specs.Adds.{Among}
use Rattle.clock_choices.specs.Counted.{TalliesOn}
use Rattle.clock_choices.specs.Extending.{reached_in}
use Rattle.clock_choices.specs.Index.{AreRunsOf, IsRead}
use Rattle.clock_choices.specs.Opens.{AreOpenOf, IsOfRun}
use Rattle.clock_choices.proofs.open_choices.count_read.Given as goal

abbrev pub invariant-loop-run : goal.invariant-loop-run
invariant-loop-run l = (own : List Choice) × TalliesOn l.most own l.initial.tally l.tally
    × ((parts : Parts) → AreRunsOf parts l.read.key l.runs → IsRead parts l.read → WritesKey parts l.read.writer l.read.key → AreOpenOf parts (reached_in l.graph) (Among (IsOfRun l.read) (take l.run-index l.runs)) own)
