use Rattle.std.proofs.Common.{◌≡◌, true, false, refl, inl, inr}
use Rattle.live_audit.proofs.Counting.{come_on}
use Rattle.live_audit.proofs.Rounds.{moved_on}
use Rattle.live_audit.proofs.live.turn.Goals as goal

pub returns-then-wants_round-clause-moved : goal.returns-then-wants_round-clause-moved
returns-then-wants_round-clause-moved g c =
    let look = c.take_one-found in let made = c.make_round_meanwhile in
    let first = c.args.side.now in let between = look.new.side in let after = made.new.side in
    moved_on c.args.running.now.core look.new.running.core made.new.running.core first.pass.1 between.pass.1 after.pass.1 first.sender.sent between.sender.sent after.sender.sent look.ensures.moved made.ensures.moved

pub returns-then-wants_round-clause-turn : goal.returns-then-wants_round-clause-turn
returns-then-wants_round-clause-turn g c most sessions limit come =
    let look = c.take_one-found in let first = c.args.side.now in let then = look.new.side in
    let came = come_on most sessions limit c.args.running.now.core look.new.running.core first.pass.1 then.pass.1 first.sender.sent then.sender.sent look.ensures.moved come in
    record {
      found = look.result;
      unasked_then = look.new.running.unasked;
      taken_then = look.new.side.pass.1;
      sent_then = look.new.side.sender.sent;
      look = look.ensures.look;
      round = inl (c.wants_round.ensures.0 c.if-wants_round.true, c.make_round_meanwhile.ensures.made most sessions limit came);
    }

pub returns-clause-turn : goal.returns-clause-turn
returns-clause-turn g c most sessions limit come =
    let look = c.take_one-found in
    record {
      found = look.result;
      unasked_then = look.new.running.unasked;
      taken_then = look.new.side.pass.1;
      sent_then = look.new.side.sender.sent;
      look = look.ensures.look;
      round = inr (λ time. let is : c.wants_round.result ≡ true = c.wants_round.ensures.1 time in let not : c.wants_round.result ≡ false = c.if-wants_round.false in cc, refl, refl, refl);
    }
