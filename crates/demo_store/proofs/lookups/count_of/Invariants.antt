-- So many of those so far are of the session.
use Rattle.std.proofs.Common.{◌≡◌, ◌≤◌, length, take}
use Rattle.demo_store.specs.Logs.{of_session}
use Rattle.demo_store.proofs.lookups.count_of.Given as goal

abbrev pub invariant-loop-executed : goal.invariant-loop-executed
invariant-loop-executed l = record {
  counted : l.count ≡ length (of_session l.session (take l.executed-index l.log));
  few : l.count ≤ l.executed-index;
}
