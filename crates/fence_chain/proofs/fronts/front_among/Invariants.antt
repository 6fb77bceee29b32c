use Rattle.std.proofs.Common.{take}
use Rattle.order_check.specs.Settled.{InFront}
use Rattle.fence_chain.specs.Picked.{IsPicked}
use Rattle.fence_chain.proofs.fronts.front_among.Given as goal

abbrev pub invariant-loop-id : goal.invariant-loop-id
invariant-loop-id l = IsPicked (InFront l.known.parts l.fence) (take l.id-index l.ids) l.front.items
