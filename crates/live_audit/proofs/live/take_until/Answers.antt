use Rattle.std.proofs.Common.{refl, ◌∙◌}
use Rattle.live_audit.proofs.Moments.{look_taken, nothing_taken, taken_on}
use Rattle.live_audit.proofs.Rounds.{moved_on, not_moved}
use Rattle.live_audit.proofs.live.take_until.Goals as goal

pub loop-init : goal.loop-init
loop-init g c = record {
  moved = not_moved c.args.running.now.core c.args.side.now.pass.1 c.args.side.now.sender.sent;
  told = c.requires.told;
  round = refl;
  counted = nothing_taken c.args.running.now.unasked c.args.side.now.pass.1 c.args.side.now.sender.sent;
  ended = c.requires.ended;
  desk = refl;
  ring = refl;
  seat = refl;
  its_desk = c.requires.desk;
}

pub loop-preserved : goal.loop-preserved
loop-preserved g c =
    let i = c.loop.invariant in let one = c.take_one-is_taken in
    let first = c.args.side.now in let before = c.loop.side in let after = one.new.side in
    record {
      moved = moved_on c.args.running.now.core c.loop.running.core one.new.running.core first.pass.1 before.pass.1 after.pass.1 first.sender.sent before.sender.sent after.sender.sent i.moved one.ensures.moved;
      told = one.ensures.told;
      round = one.ensures.round ∙ i.round;
      counted = taken_on c.args.running.now.unasked c.loop.running.unasked one.new.running.unasked first.pass.1 before.pass.1 after.pass.1 first.sender.sent before.sender.sent after.sender.sent i.counted
          (look_taken one.result c.loop.running.unasked before.pass.1 before.sender.sent one.new.running.unasked after.pass.1 after.sender.sent one.ensures.look);
      ended = one.ensures.ended;
      desk = one.ensures.same.0 ∙ i.desk;
      ring = one.ensures.same.1 ∙ i.ring;
      seat = one.ensures.same.2 ∙ i.seat;
      its_desk = one.ensures.same.0 ∙ i.its_desk;
    }
