use Rattle.settle.proofs.Written.{writes_next}
use Rattle.settle.proofs.writers.writes_among.Goals as goal

pub loop-id-preserved : goal.loop-id-preserved
loop-id-preserved c = writes_next c.args.parts.now c.args.ids.now _ _ c.loop-id.id-index _ c.loop-id-test.true c.loop-id.invariant (rw c.writes_of.ensures at c.in_ok-push_writes.ensures)
