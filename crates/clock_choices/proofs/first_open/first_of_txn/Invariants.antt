use Rattle.std.proofs.Common.{take}
use Rattle.clock_choices.specs.Adds.{Among}
use Rattle.clock_choices.specs.Extending.{reached_in}
use Rattle.clock_choices.specs.Opens.{IsOfSource, NoneOpen}
use Rattle.clock_choices.proofs.first_open.first_of_txn.Given as goal

abbrev pub invariant-loop-key : goal.invariant-loop-key
invariant-loop-key l = NoneOpen l.asked.parts.now (reached_in l.asked.graph.now) (Among (IsOfSource l.reader) (take l.key-index l.reads))
