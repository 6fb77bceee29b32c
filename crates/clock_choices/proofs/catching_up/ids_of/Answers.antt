use Rattle.std.proofs.Common.{ℕ, ◌+◌, List, length, sym, ap, subst, arith}
use Rattle.txn.specs.declared.transactions.TxnId.{TxnId}
use Rattle.clock_choices.specs.Growth.{AreIdsFrom}
use Rattle.clock_choices.proofs.Catching.{ids_none, ids_one_more}
use Rattle.clock_choices.proofs.catching_up.ids_of.Goals as goal

pub loop-txn-init : goal.loop-txn-init
loop-txn-init c = record { ids = subst (λ (ids : List TxnId). AreIdsFrom c.args.fragment.now.session c.args.fragment.now.first 0 ids) (sym c.new-ids.ensures.items) (ids_none c.args.fragment.now.session c.args.fragment.now.first); number = omega arith }

pub loop-txn-preserved : goal.loop-txn-preserved
loop-txn-preserved c =
    let s = c.args.fragment.now.session in
    let first = c.args.fragment.now.first in
    let n = c.loop-txn._txn-index in
    let was = c.loop-txn.invariant in
    let at = was.number in
    record {
      ids = subst (λ (ids : List TxnId). AreIdsFrom s first (n + 1) ids) (sym c.in_ok-push.ensures.items) (ids_one_more s first n c.loop-txn.number c.loop-txn.ids.items at was.ids);
      number = omega (arith, at);
    }

pub returns : goal.returns
returns c =
    let txns = c.args.fragment.now.txns in
    subst (λ (n : ℕ). AreIdsFrom c.args.fragment.now.session c.args.fragment.now.first n c.loop-txn.ids.items) (let len = ap length c.as_slice-txn-items.ensures in omega (arith, len)) c.loop-txn.invariant.ids
