use Rattle.std.proofs.Common.{◌≡◌, ◌+◌, ◌≤◌, length, refl, arith}
use Rattle.order_check.proofs.RulesKept.{good_more}
use Rattle.order_check.proofs.rules.are_good.Goals as goal

pub loop-txn-preserved : goal.loop-txn-preserved
loop-txn-preserved c =
    let first = c.args.first in
    let place = c.loop-txn.txn-index in
    let next : c.loop-txn.number ≡ first + place = c.loop-txn.invariant.next in
    let good = c.is_good_txn.ensures.0 c.if-not-is_good_txn.false in
    record {
      next = omega arith;
      so_far = good_more c.args.sessions c.args.session first c.args.txns.now place c.txn-item.result c.loop-txn.invariant.so_far c.loop-txn-test.true c.txn-item.is (rw next at good);
    }

pub returns : goal.returns
returns c =
    let past : length c.args.txns.now ≤ c.loop-txn.txn-index = omega arith in
    (λ _ n txn within at. c.loop-txn.invariant.so_far n txn (omega arith) at, λ _. refl)
