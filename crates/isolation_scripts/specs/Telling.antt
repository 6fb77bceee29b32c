-- Laws of what is told of halves.
use Rattle.std.specs.Prelude.{◌≡◌, ◌↔◌, ◌*◌, List, Contains, length, map}
use Rattle.txn.specs.declared.transactions.TxnId.{TxnId}
use Rattle.txn.specs.History.{History}
use Rattle.isolation_histories.specs.Halves.{commit_half}
use Rattle.isolation_scripts.specs.Isolated.{committed, halved}

-- The transactions that are told of halves are those whose commit is among them.
abbrev pub CommittedAreOfCommits : Type 0
CommittedAreOfCommits = (halves : List TxnId) (id : TxnId) → Contains halves (commit_half id) ↔ Contains (committed halves) id

-- Of two halves for each transaction of a session, as many are told as there are transactions.
abbrev pub HalvedCountsAreWhole : Type 0
HalvedCountsAreWhole = (history : History) → halved (map (λ txns. 2 * length txns) history) ≡ map length history
