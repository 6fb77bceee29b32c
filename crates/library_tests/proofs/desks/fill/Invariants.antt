-- The pass is the collector's, and no more was submitted than there were turns.
use Rattle.std.proofs.Common.{◌≡◌, ◌≤◌, length}
use Rattle.library_tests.proofs.desks.fill.Given as goal

abbrev pub invariant-loop-turn : goal.invariant-loop-turn
invariant-loop-turn g l = record {
  desk : l.pass.0 ≡ l.fn.pass.0;
  number : l.pass.1 ≡ l.fn.pass.1;
  few : length l.pass.2 ≤ l._turn;
  counted : l.count ≤ l._turn;
}
