use Rattle.std.proofs.Common.{ap, ◌∙◌}
use Rattle.std.specs.FinMap as map
use Rattle.order_check.proofs.Replayed.{noted_more}
use Rattle.order_check.proofs.explaining.note_writes.Goals as goal

pub loop-key-preserved : goal.loop-key-preserved
loop-key-preserved c = λ q.
    ap (λ m. map.get m q) c.in_ok-insert.ensures.ok
    ∙ noted_more c.loop-key.front c.as_slice-key-items.result.now c.loop-key.key-index c.args.id q (map.get c.args.front.now q) c.loop-key-test.true (c.loop-key.invariant q)
