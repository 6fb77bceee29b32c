use Rattle.fence_chain.proofs.Chained.{ordered_next, sorting_next}
use Rattle.fence_chain.proofs.chaining.chain_of.Goals as goal

pub put_in-requires-clause-ordered : goal.put_in-requires-clause-ordered
put_in-requires-clause-ordered c = ordered_next c.args.known.now.parts c.args.fences.now _ c.loop-fence.fence-index _ c.loop-fence-test.true c.requires.rise c.requires.ordered c.loop-fence.invariant

pub loop-fence-preserved : goal.loop-fence-preserved
loop-fence-preserved c = sorting_next c.args.known.now.parts c.args.fences.now _ _ c.loop-fence.fence-index _ c.loop-fence-test.true c.loop-fence.invariant c.in_ok-put_in.ensures
