-- Of two answers to a problem, whoever gives them.
use Rattle.std.specs.Prelude.{ℕ}
use Rattle.order_check.specs.declared.remainder.Parts.{Parts}
use Rattle.order_check.specs.Good.{IsGood}
use Rattle.polygraph.specs.declared.solving.Answer.{Answer}
use Rattle.polygraph.specs.Solving.{IsDecided, IsLawful}
use Rattle.shared_search.specs.Laws.{AreOfOneKind}

-- Two lawful answers to good parts that are a yes or a no are of one kind, whatever the budget and the depth of each.
abbrev pub DecidedHasOneKind : Type 0
DecidedHasOneKind = (parts : Parts) (budget depth other_budget other_depth : ℕ) (one other : Answer) → IsGood parts → IsLawful parts budget depth one → IsLawful parts other_budget other_depth other → IsDecided one → IsDecided other → AreOfOneKind one other
