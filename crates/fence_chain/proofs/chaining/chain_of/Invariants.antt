use Rattle.std.proofs.Common.{take}
use Rattle.fence_chain.specs.Picked.{IsSorting}
use Rattle.fence_chain.proofs.chaining.chain_of.Given as goal

abbrev pub invariant-loop-fence : goal.invariant-loop-fence
invariant-loop-fence l = IsSorting l.known.parts (take l.fence-index l.fences) l.chain.items
