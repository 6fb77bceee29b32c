use Rattle.strict_offers.proofs.Timed.{times_grown}
use Rattle.strict_offers.proofs.spans.with_times.Goals as goal

pub loop-place-preserved : goal.loop-place-preserved
loop-place-preserved c =
    times_grown c.args.txns.now c.args.spans.now c.loop-place.place c.index-txns-place.result c.in_ok-txn.txn c.span_at-span.result c.loop-place.timed.items _ c.loop-place-test.true c.index-txns-place.is c.in_ok-txn.ensures c.span_at-span.ensures c.loop-place.invariant c.in_ok-push.ensures.items
