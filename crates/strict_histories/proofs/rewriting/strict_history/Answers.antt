use Rattle.strict_histories.proofs.Steps.{history_grown}
use Rattle.strict_histories.proofs.rewriting.strict_history.Goals as goal

pub loop-session-preserved : goal.loop-session-preserved
loop-session-preserved c = history_grown c.args.timed.now c.loop-session.session c.index-timed-session.result c.as_slice.result.now c.in_ok-rewritten.rewritten c.loop-session.all.items _ c.loop-session-test.true c.index-timed-session.is c.as_slice.ensures c.in_ok-rewritten.ensures c.loop-session.invariant c.in_ok-push.ensures.items
