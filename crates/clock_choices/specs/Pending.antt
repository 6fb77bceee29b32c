-- For private clauses: relations in which something is left to force, but only of reads in which some transactions take part.
use Rattle.std.specs.Prelude.{◌⊎◌}
use Rattle.txn.specs.declared.transactions.TxnId.{TxnId}
use Rattle.txn.specs.declared.choices.Choice.{Choice}
use Rattle.order_check.specs.declared.remainder.Parts.{Parts}
use Rattle.order_check.specs.Known.{IsChoice}

-- the choice's reader or its writer is due
abbrev pub IsDue : (TxnId → Type 0) → Choice → Type 0
IsDue due choice = due choice.reader ⊎ due choice.writer

-- the choice is settled, unless its reader or its writer is due
pub record IsSettledBut (R : TxnId → TxnId → Type 0) (due : TxnId → Type 0) (choice : Choice) : Type 0 where
  pub before : R choice.other choice.reader → R choice.other choice.writer ⊎ IsDue due choice
  pub behind : R choice.writer choice.other → R choice.reader choice.other ⊎ IsDue due choice

-- each choice is
abbrev pub IsClosedBut : Parts → (TxnId → TxnId → Type 0) → (TxnId → Type 0) → Type 0
IsClosedBut parts R due = (choice : Choice) → IsChoice parts choice → IsSettledBut R due choice
