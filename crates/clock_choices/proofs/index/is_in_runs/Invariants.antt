use Rattle.std.proofs.Common.{take}
use Rattle.clock_choices.specs.Index.{IsInRuns}
use Rattle.clock_choices.proofs.index.is_in_runs.Given as goal

abbrev pub invariant-loop-run : goal.invariant-loop-run
invariant-loop-run l = ¬ IsInRuns (take l.run-index l.runs) l.id
