use Rattle.std.proofs.Common.{sym}
use Rattle.log_text.specs.Shown.{id_of}
use Rattle.log_text.proofs.EachItem.{each_of-more, list_of-none}
use Rattle.log_text.proofs.shown.order_of.Goals as goal

pub returns-in-None : goal.returns-in-None
returns-in-None c =
    list_of-none (id_of c.args.names) _ _ _ c.loop-item.item-index c.item-item.result c.in-Some.ensures c.deref-item-items.ensures.value c.loop-item-test.true c.item-item.is c.in-None.ensures

pub loop-item-preserved : goal.loop-item-preserved
loop-item-preserved c =
    each_of-more (id_of c.args.names) _ c.loop-item.item-index c.item-item.result _ _ _ c.loop-item.invariant c.loop-item-test.true c.item-item.is (sym c.in-Some-id_of.ensures) c.in_ok-push-in-Some-id_of.ensures.items
