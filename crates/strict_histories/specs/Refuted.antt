-- What a refutation of a rewritten history says.
use Rattle.std.specs.Prelude.{◌≡◌}
use Rattle.order_check.specs.declared.remainder.Parts.{Parts}
use Rattle.order_check.specs.Good.{IsGood}
use Rattle.order_check.specs.NoBase.{HasNoBase}
use Rattle.refutation.specs.declared.trees.Tree.{Tree}
use Rattle.refutation.specs.Refutes.{IsRefutation}
use Rattle.strict_histories.specs.Rewriting.{HasRoomForTimes, strict_history}
use Rattle.strict_histories.specs.Strict.{TimedHistory, HasStrictOrder}

-- If a tree refutes parts of which nothing is gone, and what remains is the rewritten history, no order explains the history and keeps real time.
abbrev pub RefutedHasNoStrictOrder : Type 0
RefutedHasNoStrictOrder = (timed : TimedHistory) (parts : Parts) (tree : Tree) → HasRoomForTimes timed → HasNoBase parts → parts.remain ≡ strict_history timed → IsGood parts → IsRefutation parts tree → ¬ HasStrictOrder timed
