use Rattle.std.proofs.Common.{arith}
use Rattle.isolation_scripts.proofs.Halves.{whole_next, whole_all}
use Rattle.isolation_scripts.proofs.wholes.push_wholes.Goals as goal

pub loop-place-preserved : goal.loop-place-preserved
loop-place-preserved c =
    whole_next c.args.halves.now c.args.whole.now.items c.loop-place.whole.items _ c.loop-place.place c.index-halves-place.result c.index-halves-place-in-loop-place.result _ (omega (arith, c.loop-place-test.true)) c.index-halves-place.is c.index-halves-place-in-loop-place.is c.in_ok-txn.ensures c.loop-place.invariant c.in_ok-push.ensures.items

pub returns : goal.returns
returns c = whole_all c.args.halves.now c.args.whole.now.items c.loop-place.whole.items c.loop-place.place (omega (arith, c.loop-place-test.false)) c.loop-place.invariant
