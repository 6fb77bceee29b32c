use Rattle.cobra.proofs.Spans.{spans_grown}
use Rattle.cobra.proofs.strict.spans_of.Goals as goal

pub loop-place-preserved : goal.loop-place-preserved
loop-place-preserved c =
    spans_grown c.args.began.now c.args.ended.now c.loop-place.place c.span_of-span.result c.loop-place.spans.items _ c.loop-place-test.true c.requires c.span_of-span.ensures c.loop-place.invariant c.in_ok-push.ensures.items
