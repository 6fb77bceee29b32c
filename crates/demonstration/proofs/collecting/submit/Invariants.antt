-- While the item comes back nothing was submitted.
use Rattle.std.proofs.Common.{◌≡◌}
use Rattle.demonstration.proofs.collecting.submit.Given as goal

abbrev pub invariant-loop : goal.invariant-loop
invariant-loop g l = (l.pass ≡ l.fn.pass) × (l.item ≡ l.fn.item)
