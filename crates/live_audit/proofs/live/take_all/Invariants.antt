use Rattle.std.proofs.Common.{◌≡◌, ℕ}
use Rattle.order_check.specs.Effort.{IsEffort}
use Rattle.live_audit.specs.Moments.{Turns}
use Rattle.live_audit.specs.Running.{AreEnded, HasComeTo, HasMoved, IsBetweenRounds}
use Rattle.live_audit.proofs.live.take_all.Given as goal

abbrev pub invariant-loop : goal.invariant-loop
invariant-loop g l = record {
  moved : HasMoved l.initial.running.core l.initial.side.pass.1 l.initial.side.sender.sent l.running.core l.side.pass.1 l.side.sender.sent;
  between : IsBetweenRounds l.running.core l.side.sender.sent l.side.seat.published;
  ended : AreEnded l.running.ended l.side.pass.1;
  effort : IsEffort l.running.core.search.budget l.running.core.search.depth l.means.effort.workers;
  turns : (most sessions limit : ℕ) → HasComeTo most sessions limit l.initial.running.core l.initial.side.pass.1 l.initial.side.sender.sent → Turns sessions l.initial.running.unasked l.initial.side.pass.1 l.initial.side.sender.sent l.running.unasked l.side.pass.1 l.side.sender.sent;
  desk : l.side.pass.0 ≡ l.initial.side.pass.0;
  ring : l.side.sender.ring ≡ l.initial.side.sender.ring;
  word : l.side.seat.word ≡ l.initial.side.seat.word;
  its_desk : l.side.pass.0 ≡ l.means.desk.now.0;
  its_word : l.side.seat.word ≡ l.means.latest.now;
}
