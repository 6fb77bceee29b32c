use Rattle.order_check.specs.Settled.{InFront}
use Rattle.fence_chain.proofs.Picking.{picked_next}
use Rattle.fence_chain.proofs.fronts.front_among.Goals as goal

pub loop-id-preserved : goal.loop-id-preserved
loop-id-preserved c = picked_next (InFront c.args.known.now.parts c.args.fence) c.args.ids.now _ _ c.loop-id.id-index _ c.loop-id-test.true c.requires c.loop-id.invariant c.in_ok-push_in_front.ensures
