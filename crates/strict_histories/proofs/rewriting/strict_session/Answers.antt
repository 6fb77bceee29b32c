use Rattle.strict_histories.proofs.Steps.{session_grown}
use Rattle.strict_histories.proofs.rewriting.strict_session.Goals as goal

pub loop-place-preserved : goal.loop-place-preserved
loop-place-preserved c = session_grown c.args.timed.now c.args.session c.loop-place.place c.args.txns.now c.index-txns-place.result c.in_ok-rewritten.rewritten c.loop-place.all.items _ c.loop-place-test.true c.index-txns-place.is c.in_ok-rewritten.ensures c.loop-place.invariant c.in_ok-push.ensures.items
