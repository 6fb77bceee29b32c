use Rattle.isolation_scripts.proofs.Halves.{marks_pushed}
use Rattle.isolation_scripts.proofs.handed.half_marks.Goals as goal

pub loop-place-preserved : goal.loop-place-preserved
loop-place-preserved c =
    marks_pushed c.args.marks.now c.args.begun.now c.loop-place.place _ _ c.half_mark.result c.loop-place.halves.items _ c.loop-place-test.true c.requires.flags c.half_mark.ensures c.loop-place.invariant c.in_ok-push.ensures.items
