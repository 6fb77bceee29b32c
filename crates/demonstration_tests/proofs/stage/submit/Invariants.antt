-- While the item comes back nothing was submitted.
use Rattle.std.proofs.Common.{◌≡◌}
use Rattle.demonstration_tests.proofs.stage.submit.Given as goal

abbrev pub invariant-loop : goal.invariant-loop
invariant-loop g l = l.pass ≡ l.fn.pass
