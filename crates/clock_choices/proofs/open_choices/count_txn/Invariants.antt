use Rattle.std.proofs.Common.{List, take}
use Rattle.txn.specs.declared.choices.Choice.{Choice}
use Rattle.clock_choices.specs.Adds.{Among}
use Rattle.clock_choices.specs.Counted.{TalliesOn}
use Rattle.clock_choices.specs.Extending.{reached_in}
use Rattle.clock_choices.specs.Opens.{AreOpenOf, IsOfSource}
use Rattle.clock_choices.proofs.open_choices.count_txn.Given as goal

abbrev pub invariant-loop-key : goal.invariant-loop-key
invariant-loop-key l = (own : List Choice) × TalliesOn l.most own l.initial.tally l.tally
    × AreOpenOf l.asked.parts.now (reached_in l.asked.graph.now) (Among (IsOfSource l.reader) (take l.key-index l.reads)) own
