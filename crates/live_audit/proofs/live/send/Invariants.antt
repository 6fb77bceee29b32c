use Rattle.std.proofs.Common.{◌≡◌}
use Rattle.live_audit.proofs.live.send.Given as goal

abbrev pub invariant-loop : goal.invariant-loop
invariant-loop g l = record {
  sent : l.sender.sent ≡ l.initial.sender.sent;
  ring : l.sender.ring ≡ l.initial.sender.ring;
  entry : l.entry ≡ l.initial.entry;
}
