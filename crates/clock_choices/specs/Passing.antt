-- For private clauses: who has to be looked at since a new transaction writes a key.
use Rattle.std.specs.Prelude.{◌≡◌, ◌⊎◌, ◌<◌, ℕ, List, Option, Contains, MatchOption}
use Rattle.txn.specs.declared.transactions.TxnId.{TxnId}
use Rattle.clock_choices.specs.declared.runs.Run.{Run}
use Rattle.clock_choices.specs.Index.{IsInRuns}

-- a writer before the transaction in its session
pub record IsEarlier (runs : List Run) (id earlier : TxnId) : Type 0 where
  pub writes : IsInRuns runs earlier
  pub session : earlier.session ≡ id.session
  pub below : earlier.number < id.number

-- it reaches the earlier writer, where there is one
abbrev pub IsPassed : (TxnId → TxnId → Type 0) → Option TxnId → TxnId → Type 0
IsPassed R earlier id = MatchOption earlier ⊥ (λ one. R id one)

-- each writer in the run that reaches the transaction is due, or reaches the earlier one
abbrev pub IsNotedInRun : (TxnId → TxnId → Type 0) → List TxnId → TxnId → Option TxnId → Run → Type 0
IsNotedInRun R due id earlier run = (number : ℕ) → Contains run.numbers.items number → R (record { session = run.session; number = number }) id
    → Contains due (record { session = run.session; number = number }) ⊎ IsPassed R earlier (record { session = run.session; number = number })

-- each writer that reaches the transaction is due, or reaches an earlier one, which is due
abbrev pub IsNotedInRuns : (TxnId → TxnId → Type 0) → List TxnId → List Run → TxnId → Type 0
IsNotedInRuns R due runs id = (writer : TxnId) → IsInRuns runs writer → R writer id → Contains due writer ⊎ ((earlier : TxnId) × IsEarlier runs id earlier × Contains due earlier × R writer earlier)
