-- Of all answers that a problem's cubes come to.
use Rattle.std.specs.Prelude.{◌≡◌, ◌⊎◌, ℕ, List}
use Rattle.txn.specs.declared.transactions.TxnId.{TxnId}
use Rattle.refutation.specs.declared.trees.Tree.{Tree}
use Rattle.polygraph.specs.ProblemState.{ProblemState}
use Rattle.polygraph.specs.declared.solving.Answer.{Answer}
use Rattle.polygraph.specs.declared.solving.Answer.TheVariants as answers
use Rattle.polygraph.specs.Outcomes.{IsPicked}

-- both are a yes, both a no, or both spent
pub data AreOfOneKind : Answer → Answer → Type 0 where
  both_yes : (order other : List TxnId) → AreOfOneKind (answers.Yes order) (answers.Yes other)
  both_no : (tree other : Tree) → AreOfOneKind (answers.No tree) (answers.No other)
  both_spent : AreOfOneKind answers.Spent answers.Spent

-- Whatever answers the cubes of a problem with a budget and a depth come to, by whichever solver and with however many workers: all but
-- want of memory are of one kind.
abbrev pub PickedHasOneKind : Type 0
PickedHasOneKind = (problem : ProblemState) (budget depth : ℕ) (one other : Answer) → IsPicked problem budget depth one → IsPicked problem budget depth other → (one ≡ answers.NoMemory) ⊎ ((other ≡ answers.NoMemory) ⊎ AreOfOneKind one other)
