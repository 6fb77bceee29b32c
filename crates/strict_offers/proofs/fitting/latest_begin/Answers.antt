use Rattle.std.proofs.Common.{subst}
use Rattle.std.proofs.lemmas.List.{take_all}
use Rattle.strict_offers.specs.Latest.{IsLatestBegin}
use Rattle.strict_offers.proofs.LatestBegins.{latest_next}
use Rattle.strict_offers.proofs.fitting.latest_begin.Goals as goal

pub loop-txn-preserved : goal.loop-txn-preserved
loop-txn-preserved c = latest_next c.args.txns.now c.loop-txn.txn-index c.txn-item.result c.loop-txn.latest c.later-latest.result c.loop-txn-test.true c.txn-item.is c.loop-txn.invariant c.later-latest.ensures

pub returns : goal.returns
returns c = subst (λ txns. IsLatestBegin txns c.loop-txn.latest) (take_all c.loop-txn.txn-index c.args.txns.now c.loop-txn-test.false) c.loop-txn.invariant
