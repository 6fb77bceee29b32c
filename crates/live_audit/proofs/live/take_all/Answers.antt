use Rattle.std.proofs.Common.{refl, sym, ◌∙◌, subst}
use Rattle.order_check.specs.Effort.{IsEffort}
use Rattle.live_audit.specs.CoreState.{Search}
use Rattle.live_audit.specs.Moments.{none, one}
use Rattle.live_audit.proofs.Counting.{come_on}
use Rattle.live_audit.proofs.Rounds.{moved_on, not_moved}
use Rattle.live_audit.proofs.live.take_all.Goals as goal

pub loop-init : goal.loop-init
loop-init g c = record {
  moved = not_moved c.args.running.now.core c.args.side.now.pass.1 c.args.side.now.sender.sent;
  between = c.requires.between;
  ended = c.requires.ended;
  effort = c.requires.effort;
  turns = λ most sessions limit come. none;
  desk = refl;
  ring = refl;
  word = refl;
  its_desk = c.requires.desk;
  its_word = c.requires.word;
}

pub loop-preserved : goal.loop-preserved
loop-preserved g c =
    let i = c.loop.invariant in let t = c.turn-is_done in
    let first = c.args.side.now in let before = c.loop.side in let after = t.new.side in
    record {
      moved = moved_on c.args.running.now.core c.loop.running.core t.new.running.core first.pass.1 before.pass.1 after.pass.1 first.sender.sent before.sender.sent after.sender.sent i.moved t.ensures.moved;
      between = t.ensures.between;
      ended = t.ensures.ended;
      effort = subst (λ (search : Search). IsEffort search.budget search.depth c.args.means.now.effort.workers) (sym t.ensures.moved.search) i.effort;
      turns = λ most sessions limit come. one c.loop.running.unasked before.pass.1 before.sender.sent t.new.running.unasked after.pass.1 after.sender.sent (i.turns most sessions limit come)
          (t.ensures.turn most sessions limit (come_on most sessions limit c.args.running.now.core c.loop.running.core first.pass.1 before.pass.1 first.sender.sent before.sender.sent i.moved come));
      desk = t.ensures.same.0 ∙ i.desk;
      ring = t.ensures.same.1 ∙ i.ring;
      word = t.ensures.same.2 ∙ i.word;
      its_desk = t.ensures.same.0 ∙ i.its_desk;
      its_word = t.ensures.same.2 ∙ i.its_word;
    }
