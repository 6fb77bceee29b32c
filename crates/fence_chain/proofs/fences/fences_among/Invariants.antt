use Rattle.std.proofs.Common.{take}
use Rattle.fence_chain.specs.Chains.{IsRemainingFence}
use Rattle.fence_chain.specs.Picked.{IsPicked}
use Rattle.fence_chain.proofs.fences.fences_among.Given as goal

abbrev pub invariant-loop-id : goal.invariant-loop-id
invariant-loop-id l = IsPicked (IsRemainingFence l.parts) (take l.id-index l.ids) l.fences.items
