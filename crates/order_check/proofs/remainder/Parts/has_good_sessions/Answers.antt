use Rattle.order_check.proofs.RulesKept.{good_sessions_more}
use Rattle.order_check.proofs.remainder.Parts.has_good_sessions.Goals as goal

pub loop-session-preserved : goal.loop-session-preserved
loop-session-preserved c =
    good_sessions_more c.args.self.now c.loop-session.session c.loop-session.invariant (c.is_good_session.ensures.0 c.if-not-is_good_session.false)
