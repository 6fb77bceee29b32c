use Rattle.std.proofs.Common.{◌∷◌, ap}
use Rattle.std.specs.Option.{option_to_list}
use Rattle.live_audit.proofs.Counting.{round_counts}
use Rattle.live_audit.proofs.Rounds.{between_after, told_numbered, round_moved}
use Rattle.live_audit.proofs.live.make_round.Goals as goal

pub returns-clause-moved : goal.returns-clause-moved
returns-clause-moved g c =
    let made = c.make_round-outcome in
    round_moved c.args.running.now.core made.new.self.core c.args.side.now.pass.1 c.tell.new.side.pass.1 c.args.side.now.sender.sent c.tell.new.side.sender.sent (made.result.0 ∷ option_to_list made.result.1)
    (ap (λ pass. pass.1) c.tell.ensures.same.0) c.tell.ensures.sent made.ensures.moves made.ensures.same.0

pub returns-clause-between : goal.returns-clause-between
returns-clause-between g c =
    let made = c.make_round-outcome in
    between_after c.args.running.now.core made.new.self.core made.result.0 made.result.1 c.args.side.now.sender.sent c.tell.new.side.sender.sent c.args.side.now.seat.published c.tell.new.side.seat.published
    (told_numbered c.args.running.now.core made.new.self.core made.result.0 made.result.1 made.ensures.told) made.ensures.more made.ensures.closed c.tell.ensures.sent c.tell.ensures.published c.requires.between.told

pub returns-clause-counts : goal.returns-clause-counts
returns-clause-counts g c most sessions limit come =
    let made = c.make_round-outcome in let first = c.args.side.now in (
      made.result.0 ∷ option_to_list made.result.1,
      c.tell.ensures.sent,
      round_counts most sessions limit c.args.running.now.core made.new.self.core first.pass.1 first.sender.sent made.result.0 made.result.1 made.ensures.told made.ensures.more come,
    )
