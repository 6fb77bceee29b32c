use Rattle.settle.proofs.Found.{left_has}
use Rattle.settle.proofs.finding.last_cut.Goals as goal

pub cut_at-requires-clause-fence : goal.cut_at-requires-clause-fence
cut_at-requires-clause-fence c = c.requires.fences c.in-Some.fence (left_has c.args.known.now.parts c.args.fences.items c.loop-fence.fences.items _ c.in-Some.fence c.in-Some.ensures.items c.loop-fence.invariant)
