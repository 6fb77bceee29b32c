-- What a solver may answer.
use Rattle.std.specs.Prelude.{◌≡◌, ℕ, ◌+◌, ◌<◌, ◌^◌, ⊤, List, [], length, min}
use Rattle.txn.specs.declared.choices.Choice.{Choice}
use Rattle.order_check.specs.declared.remainder.Parts.{Parts}
use Rattle.order_check.specs.Explains.{Explains}
use Rattle.order_check.specs.Known.{AreOpenChoices}
use Rattle.refutation.specs.Refutes.{IsRefutation}
use Rattle.polygraph.specs.Outcomes.{IsPicked}
use Rattle.polygraph.specs.ProblemState.{ProblemState, IsProblem}
use Rattle.polygraph.specs.declared.solving.Answer.{Answer}
use Rattle.polygraph.specs.declared.solving.Answer.TheVariants as answers

-- A search may be spent only where its budget doesn't reach: with n choices open, of which it splits the first e, the budget
-- and 2^e are together below 2^(n+1).
abbrev pub MayBeSpent : Parts → ℕ → ℕ → Type 0
MayBeSpent parts budget depth = (choices : List Choice) × AreOpenChoices parts [] choices × (budget + 2 ^ min depth (length choices) < 2 ^ (length choices + 1))

-- a yes or a no
abbrev pub IsDecided : Answer → Type 0
IsDecided (answers.Yes order) = ⊤
IsDecided (answers.No tree) = ⊤
IsDecided answer = ⊥

-- The plain search of the parts within this budget, split to this depth, comes to this answer: it is what the cubes come to, over the choices
-- that the parts leave open. So all such answers but want of memory are of one kind, whatever the workers.
abbrev pub IsPlain : Parts → ℕ → ℕ → Answer → Type 0
IsPlain parts budget depth answer = (problem : ProblemState) × IsProblem problem × (problem.known.parts ≡ parts) × IsPicked problem budget depth answer

-- A search of the parts within this budget, split to this depth, is spent: the plain one is, and the budget doesn't reach.
abbrev pub IsSpent : Parts → ℕ → ℕ → Type 0
IsSpent parts budget depth = MayBeSpent parts budget depth × IsPlain parts budget depth answers.Spent

-- What a solver may answer for parts: an order that explains them, or a tree that refutes them, however it was found; or that the search within
-- this budget, split to this depth, is spent, where the plain one is. Want of memory may always be answered.
abbrev pub IsLawful : Parts → ℕ → ℕ → Answer → Type 0
IsLawful parts budget depth (answers.Yes order) = Explains parts order
IsLawful parts budget depth (answers.No tree) = IsRefutation parts tree
IsLawful parts budget depth answers.Spent = IsSpent parts budget depth
IsLawful parts budget depth answers.NoMemory = ⊤
