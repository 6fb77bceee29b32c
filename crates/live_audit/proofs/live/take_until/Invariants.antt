use Rattle.std.proofs.Common.{◌≡◌}
use Rattle.live_audit.specs.Moments.{HasTaken}
use Rattle.live_audit.specs.Running.{AreEnded, HasMoved, HasPublished}
use Rattle.live_audit.proofs.live.take_until.Given as goal

abbrev pub invariant-loop : goal.invariant-loop
invariant-loop g l = record {
  moved : HasMoved l.initial.running.core l.initial.side.pass.1 l.initial.side.sender.sent l.running.core l.side.pass.1 l.side.sender.sent;
  told : HasPublished l.running.core l.side.sender.sent l.side.seat.published;
  round : l.running.core.engine.asked ≡ l.initial.running.core.engine.asked;
  ended : AreEnded l.running.ended l.side.pass.1;
  counted : HasTaken l.initial.running.unasked l.initial.side.pass.1 l.initial.side.sender.sent l.running.unasked l.side.pass.1 l.side.sender.sent;
  desk : l.side.pass.0 ≡ l.initial.side.pass.0;
  ring : l.side.sender.ring ≡ l.initial.side.sender.ring;
  seat : l.side.seat ≡ l.initial.side.seat;
  its_desk : l.side.pass.0 ≡ l.desk.0;
}
