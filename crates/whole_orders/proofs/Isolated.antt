-- What orders of halves mean of begins and commits.
use Rattle.std.proofs.Common.{List, [], ◌++◌, map, subst}
use Rattle.std.proofs.lemmas.List.{map-append}
use Rattle.txn.specs.declared.transactions.TxnId.{TxnId}
use Rattle.txn.specs.History.{History}
use Rattle.order_check.specs.Laws.{SameVerdictAsStoodFor}
use Rattle.isolation_histories.specs.Halves.{event_at}
use Rattle.isolation_histories.specs.Laws.{OrdersIsolate, SplitKeepsVerdict}
use Rattle.isolation_histories.specs.Snapshot.{IsSnapshotOrder}
use Rattle.isolation_histories.specs.Split.{split_history}
use Rattle.whole_orders.specs.Isolated.{EndsSnapshotOrder}
use Rattle.whole_orders.specs.Laws.{SplitPartsTell}
use Rattle.whole_orders.specs.Left.{EndsOrder}

-- the end of an order that explains a split history is the end of one of begins and commits
pub ends_isolated : OrdersIsolate → (history : History) (order : List TxnId) → EndsOrder (split_history history) order → EndsSnapshotOrder history (map event_at order)
ends_isolated isolate history order (past, h) = (map event_at past, subst (IsSnapshotOrder history) (map-append event_at past order) (isolate history (past ++ order) h))

pub parts_tell : SameVerdictAsStoodFor → SplitKeepsVerdict → OrdersIsolate → SplitPartsTell
parts_tell stood keeps isolate parts history can stands left = record {
  verdicts = λ kind. (
    λ is. (stood parts (split_history history) kind stands).0 ((keeps history kind can).0 is),
    λ is. (keeps history kind can).1 ((stood parts (split_history history) kind stands).1 is),
  );
  orders = λ order h. ends_isolated isolate history order (left.0, left.1.future [] order h);
}
