use Rattle.std.proofs.Common.{List, take}
use Rattle.txn.specs.declared.choices.Choice.{Choice}
use Rattle.clock_choices.specs.Adds.{Among}
use Rattle.clock_choices.specs.Counted.{IsCounted}
use Rattle.clock_choices.specs.Extending.{reached_in}
use Rattle.clock_choices.specs.Opens.{AreOpenOf, IsOfReader}
use Rattle.clock_choices.proofs.open_choices.count_open.Given as goal

abbrev pub invariant-loop-id : goal.invariant-loop-id
invariant-loop-id l = (own : List Choice) × IsCounted l.most own l.tally × AreOpenOf l.asked.parts.now (reached_in l.asked.graph.now) (Among IsOfReader (take l.id-index l.ids)) own
