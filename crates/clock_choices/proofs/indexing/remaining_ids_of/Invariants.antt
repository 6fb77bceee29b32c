use Rattle.std.proofs.Common.{◌<◌, Contains, ◌↔◌}
use Rattle.txn.specs.declared.transactions.TxnId.{TxnId}
use Rattle.order_check.specs.Based.{Remains}
use Rattle.clock_choices.specs.Indexing.{AreInOrder}
use Rattle.clock_choices.proofs.indexing.remaining_ids_of.Given as goal

abbrev pub invariant-loop-session : goal.invariant-loop-session
invariant-loop-session l = record {
  members : (id : TxnId) → Contains l.ids.items id ↔ (Remains l.parts id × (id.session < l.session));
  rise : AreInOrder l.ids.items;
}
