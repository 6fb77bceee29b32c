use Rattle.std.proofs.Common.{◌≢◌, ℕ, true}
use Rattle.clock_choices.specs.Due.{flag_at}
use Rattle.clock_choices.proofs.due.no_flags.Given as goal

abbrev pub invariant-loop-from : goal.invariant-loop-from
invariant-loop-from l = (s p : ℕ) → flag_at l.flags.items s p ≢ true
