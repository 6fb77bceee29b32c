-- Parts of an auditor whose transactions are split, and engines that have such parts.
use Rattle.std.specs.Prelude.{◌≡◌, ℕ, ◌<◌, ◌/◌, ◌%◌, ◌^◌, ◌⊎◌, List, drop, length, Some, All}
use Rattle.std.specs.Ordering.{nat_cmp}
use Rattle.std.specs.FinMap.{FinMap, get}
use Rattle.txn.specs.declared.transactions.TxnId.{TxnId}
use Rattle.txn.specs.declared.transactions.Txn.{Txn}
use Rattle.order_check.specs.declared.remainder.Parts.{Parts}
use Rattle.order_check.specs.Based.{mark_of, remaining_of}
use Rattle.settle.specs.declared.cuts.Cut.{Cut}
use Rattle.round_state.specs.EngineState.{EngineState}
use Rattle.round_state.specs.Steps.{StepsTo}
use Rattle.round_state.specs.declared.steps.Step.{Step}
use Rattle.round_state.specs.declared.steps.StepReply.{StepReply}
use Rattle.isolation_histories.specs.Split.{split_txns}
use Rattle.isolation_histories.specs.Splittable.{HasLowNumbers}
use Rattle.isolation_scripts.specs.Steps.{split_step, CanBeMade}

-- From this half of a session on, these are the halves of some transactions: without the begin of the first, where it is a commit.
pub record AreHalvesFrom (s mark : ℕ) (halves : List Txn) : Type 0 where
  pub txns : List Txn
  pub low : All HasLowNumbers txns
  pub are : halves ≡ drop (mark % 2) (split_txns s (mark / 2) txns)

-- Halves with odd numbers, which are commits, write keys; the others write the stars of keys, or the epoch key.
abbrev pub IsKeyOf : TxnId → ℕ → Type 0
IsKeyOf half key = ((half.number % 2 ≡ 1) × (key < 2 ^ 63)) ⊎ ((half.number % 2 ≡ 0) × ((key ≡ 0) ⊎ (2 ^ 63 < key)))

-- each last writer may have written its key
abbrev pub HaveHalfKeys : FinMap nat_cmp TxnId → Type 0
HaveHalfKeys last = (key : ℕ) (half : TxnId) → get last key ≡ Some half → IsKeyOf half key

-- what remains of each session are halves, and last gone writers are some
pub record AreSplitParts (parts : Parts) : Type 0 where
  pub sessions : length parts.base.marks ≡ length parts.remain
  pub remain : (s : ℕ) → AreHalvesFrom s (mark_of parts s) (remaining_of parts s)
  pub last : HaveHalfKeys parts.base.last

-- so are the parts of its open round, and the cut that is held is one of such parts
pub record IsSplitEngine (engine : EngineState) : Type 0 where
  pub parts : AreSplitParts engine.parts
  pub asked : (parts : Parts) → engine.asked ≡ Some parts → AreSplitParts parts
  pub held : (cut : Cut) → engine.held ≡ Some cut → HaveHalfKeys cut.last

-- An engine of split transactions stays one, however many sessions there may be.
abbrev pub SplitEnginesStay : Type 0
SplitEnginesStay = (sessions : ℕ) (old new : EngineState) (step : Step) (said : StepReply) → CanBeMade sessions step → StepsTo old (split_step step) said new → IsSplitEngine old → IsSplitEngine new
