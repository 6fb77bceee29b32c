-- Transactions as they were offered, of the two that each was split into.
use Rattle.std.specs.Prelude.{ℕ, ◌/◌, ◌%◌, cond, nat_eq, List, [], ◌∷◌, map}
use Rattle.txn.specs.declared.transactions.TxnId.{TxnId}
use Rattle.txn.specs.declared.transactions.Source.{Source}
use Rattle.txn.specs.declared.transactions.Source.TheVariants.{Init, By}
use Rattle.txn.specs.declared.transactions.Txn.{Txn}
use Rattle.txn.specs.declared.transactions.Fragment.{Fragment}

-- the transaction that was split into this one and another
abbrev pub whole_of : TxnId → TxnId
whole_of half = record { session = half.session; number = half.number / 2 }

abbrev pub whole_source : Source → Source
whole_source Init = Init
whole_source (By half) = By (whole_of half)

abbrev pub whole_read : ℕ × Source → ℕ × Source
whole_read read = (read.0, whole_source read.1)

-- what was split into these two
abbrev pub whole_txn : Txn → Txn → Txn
whole_txn begin commit = record { reads = map whole_read begin.reads; writes = commit.writes }

-- of halves one after another, the first of which is a begin; a begin at the end, without its commit, is left out
abbrev pub whole_txns : List Txn → List Txn
whole_txns (begin ∷ commit ∷ more) = whole_txn begin commit ∷ whole_txns more
whole_txns halves = []

-- the same where the first is a commit alone: the reads of its transaction are forgotten
abbrev pub begun_txns : List Txn → List Txn
begun_txns [] = []
begun_txns (commit ∷ more) = record { reads = []; writes = commit.writes } ∷ whole_txns more

-- the halves with odd numbers are commits
abbrev pub whole_fragment : Fragment → Fragment
whole_fragment halves = record {
  session = halves.session;
  first = halves.first / 2;
  txns = cond (nat_eq (halves.first % 2) 1) (begun_txns halves.txns) (whole_txns halves.txns);
}
