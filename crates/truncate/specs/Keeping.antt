-- Cuts that keep what parts stand for.
use Rattle.std.specs.Prelude.{List}
use Rattle.std.specs.Ordering.{nat_cmp}
use Rattle.std.specs.FinMap.{FinMap}
use Rattle.txn.specs.declared.transactions.TxnId.{TxnId}
use Rattle.txn.specs.History.{History}
use Rattle.order_check.specs.declared.remainder.Parts.{Parts}
use Rattle.order_check.specs.Cuts.{IsKeptFront}
use Rattle.order_check.specs.Settled.{IsCutAt, IsSettled}
use Rattle.order_check.specs.StandsFor.{IsOpenSession, StandsFor}
use Rattle.order_check.specs.Verdict.{HasOrder}

-- Where the gone and their last writers are a cut at a fence that is settled in a kept front of the old parts, which some order
-- explains, the new parts stand for each history that the old ones stand for.
abbrev pub KeepsStandsFor : Parts → Parts → List TxnId → FinMap nat_cmp TxnId → Type 0
KeepsStandsFor old new gone last = (front : Parts) (fence : TxnId) (history : History) → StandsFor old history → HasOrder front → IsKeptFront front old → IsSettled front (IsOpenSession front) fence → IsCutAt front fence gone last → StandsFor new history
