-- What is believed of a search of which nothing is promised.
use Rattle.std.specs.Prelude.{◌≡◌, ℕ, ⊤}
use Rattle.order_check.specs.declared.remainder.Parts.{Parts}
use Rattle.order_check.specs.Explains.{Explains}
use Rattle.refutation.specs.Refutes.{IsRefutation}
use Rattle.polygraph.specs.Outcomes.{IsPicked}
use Rattle.polygraph.specs.ProblemState.{ProblemState}
use Rattle.polygraph.specs.declared.solving.Answer.{Answer}
use Rattle.polygraph.specs.declared.solving.Answer.TheVariants as answers

-- an order that explains the parts, a tree that refutes them, or nothing
abbrev pub IsBelieved : Parts → Answer → Type 0
IsBelieved parts (answers.Yes order) = Explains parts order
IsBelieved parts (answers.No tree) = IsRefutation parts tree
IsBelieved parts answers.Spent = ⊤
IsBelieved parts answers.NoMemory = ⊤

-- The answer follows what was found first: it is that, and where nothing was found, what the plain search comes to.
abbrev pub FollowsFind : ProblemState → ℕ → ℕ → Answer → Answer → Type 0
FollowsFind problem budget depth answers.Spent answer = IsPicked problem budget depth answer
FollowsFind problem budget depth found answer = answer ≡ found
