-- What is picked of the outcomes of cubes.
use Rattle.std.specs.Prelude.{◌≡◌, ℕ, ◌<◌, ◌≤◌, ◌⊎◌, ⊤, Bool, true, false, List, [], ◌∷◌, length, slice_get, Option, Some, None, IsSome}
use Rattle.txn.specs.declared.transactions.TxnId.{TxnId}
use Rattle.txn.specs.declared.choices.Choice.{Choice}
use Rattle.refutation.specs.declared.trees.Tree.{Tree}
use Rattle.refutation.specs.Joining.{IsJoin}
use Rattle.polygraph.specs.declared.solving.Cube.{Cube}
use Rattle.polygraph.specs.declared.solving.Cube.TheVariants as cubes
use Rattle.polygraph.specs.declared.solving.Answer.{Answer}
use Rattle.polygraph.specs.declared.solving.Answer.TheVariants as answers

-- the outcome's order, or else that of the others
abbrev pub or_yes : Cube → Option (List TxnId) → Option (List TxnId)
or_yes (cubes.Yes order) others = Some order
or_yes (cubes.No tree) others = others
or_yes cubes.Spent others = others

-- the order of the first outcome that is a yes
abbrev pub first_yes : List Cube → Option (List TxnId)
first_yes [] = None
first_yes (cube ∷ cubes) = or_yes cube (first_yes cubes)

-- whether the outcome is spent, or one of the others is
abbrev pub or_spent : Cube → Bool → Bool
or_spent (cubes.Yes order) others = others
or_spent (cubes.No tree) others = others
or_spent cubes.Spent others = true

-- whether an outcome is spent
abbrev pub has_spent : List Cube → Bool
has_spent [] = false
has_spent (cube ∷ cubes) = or_spent cube (has_spent cubes)

-- the outcome's tree, before the others
abbrev pub and_tree : Cube → List Tree → List Tree
and_tree (cubes.Yes order) others = others
and_tree (cubes.No tree) others = tree ∷ others
and_tree cubes.Spent others = others

-- the trees of the outcomes that are a no, in order
abbrev pub trees : List Cube → List Tree
trees [] = []
trees (cube ∷ cubes) = and_tree cube (trees cubes)

-- Of the outcomes, in order of their cubes: the first yes; else spent, where one is spent; else the joined trees. Want of memory may always be answered.
abbrev pub IsPick : List Choice → List Cube → Answer → Type 0
IsPick choices outcomes (answers.Yes order) = first_yes outcomes ≡ Some order
IsPick choices outcomes (answers.No tree) = (first_yes outcomes ≡ None) × (has_spent outcomes ≡ false) × IsJoin choices (trees outcomes) tree
IsPick choices outcomes answers.Spent = (first_yes outcomes ≡ None) × (has_spent outcomes ≡ true)
IsPick choices outcomes answers.NoMemory = ⊤

-- Of each cube there is an outcome, or of each up to a yes, and each is one that the search of its cube may give.
pub record AreOutcomes (may : ℕ → Cube → Type 0) (count : ℕ) (outcomes : List Cube) : Type 0 where
  pub allowed : (i : ℕ) (cube : Cube) → slice_get outcomes i ≡ Some cube → may i cube
  pub few : length outcomes ≤ count
  pub end : length outcomes < count → IsSome (first_yes outcomes)

-- the answer is picked of such outcomes, unless memory was wanting
abbrev pub Picked : (ℕ → Cube → Type 0) → List Choice → ℕ → Answer → Type 0
Picked may choices count answer = (answer ≡ answers.NoMemory) ⊎ ((outcomes : List Cube) × AreOutcomes may count outcomes × IsPick choices outcomes answer)
