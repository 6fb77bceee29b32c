-- For private clauses: how the relation goes on as reads are settled that are due.
use Rattle.std.specs.Prelude.{◌≡◌, ◌≢◌, ◌⊎◌, List, Contains}
use Rattle.txn.specs.declared.transactions.TxnId.{TxnId}
use Rattle.txn.specs.declared.choices.Choice.{Choice}
use Rattle.order_check.specs.declared.remainder.Parts.{Parts}
use Rattle.order_check.specs.Known.{IsChoice}
use Rattle.clock_choices.specs.declared.reads.Read.{Read}
use Rattle.clock_choices.specs.Forcing.{choice_of}
use Rattle.clock_choices.specs.Index.{IsRead, TakesPart}
use Rattle.clock_choices.specs.Pending.{IsSettledBut}

-- each choice of the read is settled, unless its reader or its writer is due
abbrev pub IsReadSettled : Parts → (TxnId → TxnId → Type 0) → List TxnId → Read → Type 0
IsReadSettled parts R due read = (other : TxnId) → IsChoice parts (choice_of read other) → IsSettledBut R (λ id. Contains due id) (choice_of read other)

-- the same of each choice in which the transaction reads, or is read from
abbrev pub IsTxnSettled : Parts → (TxnId → TxnId → Type 0) → List TxnId → TxnId → Type 0
IsTxnSettled parts R due id = (choice : Choice) → IsChoice parts choice → (choice.reader ≡ id) ⊎ (choice.writer ≡ id) → IsSettledBut R (λ other. Contains due other) choice

-- the read is another transaction's, which has a turn of its own
abbrev pub IsLeftTo : List TxnId → TxnId → Read → Type 0
IsLeftTo batch id read = Contains batch read.reader × (read.reader ≢ id)

-- each read in which the transaction takes part is settled, or left to its reader's turn
abbrev pub IsTurnSettled : Parts → (TxnId → TxnId → Type 0) → List TxnId → List TxnId → TxnId → Type 0
IsTurnSettled parts R due batch id = (read : Read) → IsRead parts read → TakesPart id read → IsReadSettled parts R due read ⊎ IsLeftTo batch id read
