-- Laws of parts that hold the halves of a history of which something is gone.
use Rattle.std.specs.Prelude.{List, map}
use Rattle.txn.specs.declared.transactions.TxnId.{TxnId}
use Rattle.txn.specs.History.{History}
use Rattle.order_check.specs.declared.remainder.Parts.{Parts}
use Rattle.gone_orders.specs.Behind.{RemainsBehind}
use Rattle.isolation_histories.specs.Halves.{event_at}
use Rattle.isolation_histories.specs.Split.{split_history}
use Rattle.isolation_rests.specs.Behind.{TellBehind}

-- Parts that remain of a split history behind an order of what is gone tell of the history as it was offered, behind the begins and commits that
-- this order is of.
abbrev pub HalvesTellBehind : Type 0
HalvesTellBehind = (past : List TxnId) (parts : Parts) (history : History) → RemainsBehind past parts (split_history history) → TellBehind (map event_at past) parts history
