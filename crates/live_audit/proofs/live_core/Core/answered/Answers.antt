use Rattle.live_audit.proofs.Answering.{reported_moves, abandoned_moves}
use Rattle.live_audit.proofs.live_core.Core.answered.Goals as goal

pub returns-in-Some-clause-moves : goal.returns-in-Some-clause-moves
returns-in-Some-clause-moves c = reported_moves c.args.self.now.search c.args.self.now.engine c.finish.new.self.engine c.forget-cut.new.self.engine c.in-Some.report c.forget-cut.result c.in-Some.ensures.finishes c.forget-cut.ensures.forgot

pub returns-in-None-clause-moves : goal.returns-in-None-clause-moves
returns-in-None-clause-moves c = abandoned_moves c.args.self.now.search c.args.self.now.engine c.finish.new.self.engine c.give_up.new.self.engine c.in-None.ensures.finishes c.give_up.ensures.legal
