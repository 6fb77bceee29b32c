-- As many as there were turns.
use Rattle.std.proofs.Common.{◌≡◌, vec_len}
use Rattle.worker_tests.proofs.cubes.choices.Given as goal

abbrev pub invariant-loop : goal.invariant-loop
invariant-loop l = vec_len l.choices ≡ l.counter
