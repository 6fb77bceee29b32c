use Rattle.fence_chain.specs.Chains.{IsRemainingFence}
use Rattle.fence_chain.proofs.Picking.{picked_next}
use Rattle.fence_chain.proofs.fences.fences_among.Goals as goal

pub loop-id-preserved : goal.loop-id-preserved
loop-id-preserved c = picked_next (IsRemainingFence c.args.parts.now) c.args.ids.now _ _ c.loop-id.id-index _ c.loop-id-test.true c.requires c.loop-id.invariant c.in_ok-push_fence.ensures
