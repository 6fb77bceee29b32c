use Rattle.std.proofs.Common.{◌∙◌, ◌+◌, subst, sym, take}
use Rattle.std.specs.Ordering.{nat_cmp}
use Rattle.std.specs.FinMap as map
use Rattle.txn.specs.declared.transactions.TxnId.{TxnId}
use Rattle.truncate.specs.Overruled.{AreOverruled}
use Rattle.truncate.proofs.Overruling.{overruled_next, overruled_all}
use Rattle.truncate.proofs.writers.overruled.Goals as goal

pub loop-entry-preserved : goal.loop-entry-preserved
loop-entry-preserved c =
    let items = c.as_slice-entry-items.result.now in
    subst (λ (m : map.FinMap nat_cmp TxnId). AreOverruled (take (c.loop-entry.entry-index + 1) items) c.args.writers.now m) (sym c.in_ok-insert.ensures.ok)
    (overruled_next c.args.others.now c.args.writers.now c.loop-entry.all items c.loop-entry.entry-index _ (c.as_slice-entry-items.ensures ∙ c.in_ok-entries.ensures) c.loop-entry-test.true c.loop-entry.invariant)

pub returns : goal.returns
returns c = overruled_all c.args.others.now c.args.writers.now c.loop-entry.all c.as_slice-entry-items.result.now c.loop-entry.entry-index (c.as_slice-entry-items.ensures ∙ c.in_ok-entries.ensures) c.loop-entry-test.false c.loop-entry.invariant
