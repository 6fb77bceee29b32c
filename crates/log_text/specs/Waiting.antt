-- For private clauses: trees that wait to be written, the next one last.
use Rattle.std.specs.Prelude.{◌≡◌, ℕ, ◌+◌, List, [], ◌∷◌, ◌++◌, map}
use Rattle.std.specs.Borrow.{Bor}
use Rattle.serde_json.specs.Data.{Data}
use Rattle.serde_json.specs.View.{view}
use Rattle.serde_json.specs.declared.value.Value.{Value}
use Rattle.refutation.specs.Weights.{weight}
use Rattle.refutation.specs.declared.trees.Tree.{Tree}
use Rattle.log_text.specs.Told.{nodes_data}
use Rattle.log_text.specs.declared.names.Names.{Names}

-- their items, in the order in which they will be written
abbrev pub waiting_data : Names → List (Bor Tree) → List Data
waiting_data names [] = []
waiting_data names (tree ∷ next) = waiting_data names next ++ nodes_data names tree.now

-- what they weigh together
abbrev pub waiting_weight : List (Bor Tree) → ℕ
waiting_weight [] = 0
waiting_weight (tree ∷ next) = weight tree.now + waiting_weight next

-- the values and what waits come to these data
abbrev pub ComeTo : Names → List Value → List (Bor Tree) → List Data → Type 0
ComeTo names values waiting all = map view values ++ waiting_data names waiting ≡ all
