-- Laws of what remains behind what is gone.
use Rattle.std.specs.Prelude.{◌≡◌, ◌↔◌, ℕ, List, [], ◌++◌, Contains, None}
use Rattle.std.specs.Ordering.{nat_cmp}
use Rattle.std.specs.FinMap.{FinMap}
use Rattle.txn.specs.declared.transactions.TxnId.{TxnId}
use Rattle.txn.specs.History.{History, txn_at, NoneWrites}
use Rattle.order_check.specs.declared.remainder.Parts.{Parts}
use Rattle.order_check.specs.Based.{last_gone}
use Rattle.order_check.specs.Cuts.{IsFront}
use Rattle.order_check.specs.Explains.{Explains}
use Rattle.order_check.specs.NoBase.{HasNoBase}
use Rattle.order_check.specs.SameContent.{HaveSameContent}
use Rattle.order_check.specs.Settled.{IsCutAt, IsCutOf, IsSettled}
use Rattle.order_check.specs.StandsFor.{Arrival, IsOpenSession, history_after, parts_after}
use Rattle.order_check.specs.Whole.{ExplainsWhole}
use Rattle.gone_orders.specs.Behind.{RemainsBehind}

-- Which orders explain what remains: those that, put behind what is gone, explain the whole history, and no others.
abbrev pub OrdersBehindAreOfTheWhole : Type 0
OrdersBehindAreOfTheWhole = (past : List TxnId) (parts : Parts) (history : History) → RemainsBehind past parts history → (order : List TxnId) → Explains parts order ↔ ExplainsWhole history (past ++ order)

-- A key has no last gone writer exactly where nothing that is gone writes it.
abbrev pub UnwrittenKeysHaveNoLast : Type 0
UnwrittenKeysHaveNoLast = (past : List TxnId) (parts : Parts) (history : History) (key : ℕ) → RemainsBehind past parts history → (last_gone parts key ≡ None) ↔ NoneWrites (txn_at history) key past

-- Where nothing is gone, all that there is remains, behind nothing.
abbrev pub BarePartsStayBehind : Type 0
BarePartsStayBehind = (parts : Parts) → HasNoBase parts → RemainsBehind [] parts parts.remain

-- Whatever arrives remains behind the same.
abbrev pub ArrivalsStayBehind : Type 0
ArrivalsStayBehind = (past : List TxnId) (parts : Parts) (history : History) (arrival : Arrival) → RemainsBehind past parts history → RemainsBehind past (parts_after parts arrival) (history_after history arrival)

-- Other parts with the same base and the same transactions remain behind the same.
abbrev pub ContentStaysBehind : Type 0
ContentStaysBehind = (past : List TxnId) (one other : Parts) (history : History) → HaveSameContent one other → RemainsBehind past one history → RemainsBehind past other history

-- A cut of a front, at a fence that is settled there, splits each order that explains the front: what the cut takes out stands ahead. Put behind
-- what is gone, that is gone, and what the cut leaves remains behind it, with all that has come since.
abbrev pub CutsMoveOn : Type 0
CutsMoveOn =
    (past : List TxnId) (front old new : Parts) (history : History) (order : List TxnId) (fence : TxnId) (gone : List TxnId) (last : FinMap nat_cmp TxnId)
    → RemainsBehind past old history → Explains front order → IsFront front old → IsSettled front (IsOpenSession front) fence → IsCutAt front fence gone last → IsCutOf old new gone last
    → (ahead after : List TxnId) × (order ≡ ahead ++ after) × ((id : TxnId) → Contains ahead id ↔ Contains gone id) × RemainsBehind (past ++ ahead) new history
