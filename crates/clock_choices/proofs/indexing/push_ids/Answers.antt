use Rattle.std.proofs.Common.{ℕ, ◌+◌, List, length, sym, ap, subst, arith, Contains}
use Rattle.txn.specs.declared.transactions.TxnId.{TxnId}
use Rattle.order_check.specs.Based.{mark_of}
use Rattle.clock_choices.specs.Adds.{Adds}
use Rattle.clock_choices.specs.Indexing.{AreInOrder, IsUpTo}
use Rattle.clock_choices.proofs.RemainingIds.{rise_push, upto_none, upto_push, upto_session}
use Rattle.clock_choices.proofs.indexing.push_ids.Goals as goal

pub loop-txn-init : goal.loop-txn-init
loop-txn-init c = record {
  number = omega (arith, c.mark_of-number.ensures);
  adds = subst (λ (n : ℕ). Adds (Contains c.args.ids.now.items) (Contains c.args.ids.now.items) (IsUpTo c.args.session (mark_of c.args.parts.now c.args.session) n)) (sym c.mark_of-number.ensures) (upto_none c.args.ids.now.items c.args.session (mark_of c.args.parts.now c.args.session));
  rise = λ before order. order;
}

pub loop-txn-preserved : goal.loop-txn-preserved
loop-txn-preserved c =
    let was = c.loop-txn.invariant in
    let at = was.number in
    let mark = mark_of c.args.parts.now c.args.session in
    record {
      number = omega (arith, at);
      adds = subst (λ (ids : List TxnId). Adds (Contains c.args.ids.now.items) (Contains ids) (IsUpTo c.args.session mark (c.loop-txn.number + 1))) (sym c.in_ok-push.ensures.items)
          (upto_push c.args.ids.now.items c.loop-txn.ids.items c.args.session mark c.loop-txn.number (omega (arith, at)) was.adds);
      rise = λ before order. subst (λ (ids : List TxnId). AreInOrder ids) (sym c.in_ok-push.ensures.items)
          (rise_push c.args.ids.now.items c.loop-txn.ids.items c.args.session mark c.loop-txn.number was.adds before (was.rise before order));
    }

pub returns-clause-rise : goal.returns-clause-rise
returns-clause-rise c = let was = c.loop-txn.invariant in was.rise

pub returns-clause-adds : goal.returns-clause-adds
returns-clause-adds c =
    let was = c.loop-txn.invariant in
    let at = was.number in
    let parts = c.args.parts.now in
    let session = c.args.session in
    let len = ap length c.remaining_of-txn-items.ensures in
    upto_session parts c.args.ids.now.items c.loop-txn.ids.items session c.loop-txn.number (omega (arith, at, len)) was.adds

pub overflow_add-number : goal.overflow_add-number
overflow_add-number c =
    let was = c.loop-txn.invariant in
    let at = was.number in
    let good = c.requires in
    let most = good.numbers c.args.session in
    let len = ap length c.remaining_of-txn-items.ensures in
    omega (arith, at, most, len, c.loop-txn-test.true)
