use Rattle.clock_choices.specs.UpTo.{GoesUp}
use Rattle.clock_choices.proofs.by_sources.add_ready.Given as goal

abbrev pub invariant-loop-txn : goal.invariant-loop-txn
invariant-loop-txn l = GoesUp l.parts l.initial.graph l.graph
