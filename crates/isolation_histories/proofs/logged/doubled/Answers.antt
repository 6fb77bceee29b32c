use Rattle.isolation_histories.proofs.Doubling.{doubled_next}
use Rattle.isolation_histories.proofs.logged.doubled.Goals as goal

pub loop-flag-preserved : goal.loop-flag-preserved
loop-flag-preserved c = doubled_next c.args.flags.now c.loop-flag.flag-index _ c.loop-flag.twice.items _ _ c.loop-flag-test.true c.loop-flag.invariant c.in_ok-push.ensures.items c.in_ok-push-2.ensures.items
