-- For private clauses: the items of one tree, behind which no other item stands.
use Rattle.std.specs.Prelude.{ℕ, zero, suc, List, [], ◌∷◌, ◌++◌, Bool, true, false, Option, Some, None, option_map, option_and_then}
use Rattle.json.specs.Token.{Token}
use Rattle.serde_json.specs.Data.{Data, Items, no_items, item}
use Rattle.log_text.specs.declared.tree_items.TreeItem.{TreeItem}
use Rattle.log_text.specs.declared.tree_items.TreeItem.TheVariants.{Force, Split, Close}
use Rattle.log_text.specs.Items.{array_of}
use Rattle.log_text.specs.Refutations.{node_of}
use Rattle.log_text.specs.Streams.{AreRead}
use Rattle.log_text.specs.declared.names.Names.{Names}

-- how many trees are owed behind an item, where so many are owed behind the tree that it begins
abbrev pub owed_behind : ℕ → TreeItem → ℕ
owed_behind more (Force step) = suc more
owed_behind more (Split choice) = suc (suc more)
owed_behind more (Close leaf) = more

-- no item stands behind those of so many trees
abbrev pub are_owed : ℕ → List TreeItem → Bool
are_owed owed [] = true
are_owed zero (node ∷ nodes) = false
are_owed (suc more) (node ∷ nodes) = are_owed (owed_behind more node) nodes

-- items of trees, where none stands behind those of so many
abbrev pub nodes_in : Names → ℕ → Items → Option (List TreeItem)
nodes_in names owed no_items = Some []
nodes_in names zero (item given rest) = None
nodes_in names (suc more) (item given rest) = option_and_then (λ node. option_map (λ nodes. node ∷ nodes) (nodes_in names (owed_behind more node) rest)) (node_of names given)

abbrev pub tree_list : Names → Data → Option (List TreeItem)
tree_list names = array_of (nodes_in names 1)

-- Items were read up to here, and so many trees are owed: what comes of the rest is put behind these.
pub record NodesSoFar (names : Names) (old : List Token) (front : List TreeItem) (owed : ℕ) (here : List Token) : Type 0 where
  pub whole : (found : Option (List TreeItem)) (new : List Token) → AreRead (nodes_in names owed) 3 here found new → AreRead (nodes_in names 1) 3 old (option_map (λ nodes. front ++ nodes) found) new
