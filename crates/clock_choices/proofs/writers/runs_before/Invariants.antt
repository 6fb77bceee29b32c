use Rattle.std.proofs.Common.{ℕ, ◌<◌, get_or}
use Rattle.clock_choices.specs.declared.runs.Run.{Run}
use Rattle.clock_choices.proofs.writers.runs_before.Given as goal

abbrev pub invariant-loop-place : goal.invariant-loop-place
invariant-loop-place l = (k : ℕ) (d : Run) → k < l.place → (get_or l.runs k d).session < l.session
