use Rattle.strict_histories.proofs.KnownEnds.{all_ends_next}
use Rattle.strict_histories.proofs.ends.all_ends.Goals as goal

pub loop-txns-preserved : goal.loop-txns-preserved
loop-txns-preserved c = all_ends_next c.args.timed.now c.loop-txns.txns-index c.txns-item.result c.as_slice.result.now c.in_ok-ends.ends c.loop-txns.all.items _ c.loop-txns-test.true c.txns-item.is c.as_slice.ensures c.in_ok-ends.ensures c.loop-txns.invariant c.in_ok-push.ensures.items
