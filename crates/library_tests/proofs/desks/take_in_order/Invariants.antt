-- The pass is of the same desk.
use Rattle.std.proofs.Common.{◌≡◌, ◌≤◌}
use Rattle.library_tests.proofs.desks.take_in_order.Given as goal

abbrev pub invariant-loop-turn : goal.invariant-loop-turn
invariant-loop-turn g l = record {
  desk : l.pass.0 ≡ l.fn.pass.0;
  counted : l.count ≤ l._turn;
}
