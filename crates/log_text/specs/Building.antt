-- For private clauses: trees that are put together from the last of their items on.
use Rattle.std.specs.Prelude.{◌≡◌, ℕ, zero, suc, List, [], ◌∷◌, ◌++◌, ⊤, Option, Some, None, map, reverse, option_map, option_and_then}
use Rattle.refutation.specs.declared.trees.Tree.{Tree}
use Rattle.log_text.specs.declared.tree_items.TreeItem.{TreeItem}
use Rattle.log_text.specs.declared.tree_items.TreeItem.TheVariants.{Force, Split, Close}
use Rattle.log_text.specs.declared.building.Front.{Front}
use Rattle.log_text.specs.Refutations.{nodes_of, IsMerged, IsNoForce}

-- the items of trees, of which the foremost stands last
abbrev pub nodes_behind : List Tree → List TreeItem
nodes_behind [] = []
nodes_behind (tree ∷ more) = nodes_behind more ++ nodes_of tree

-- those of the tree that is being put together: its steps, the first of them last, and the rest
abbrev pub nodes_in_front : Option Front → List TreeItem
nodes_in_front None = []
nodes_in_front (Some front) = map Force (reverse front.steps.items) ++ nodes_of front.rest

-- what stands below its steps is merged, and no force node; where there is none, there is no tree at all
abbrev pub IsInFront : Option Front → List Tree → Type 0
IsInFront None behind = behind ≡ []
IsInFront (Some front) behind = IsNoForce front.rest × IsMerged front.rest

abbrev pub AreMerged : List Tree → Type 0
AreMerged [] = ⊤
AreMerged (tree ∷ more) = IsMerged tree × AreMerged more

-- these are the items of all of them
pub record AreBuilt (front : Option Front) (behind : List Tree) (nodes : List TreeItem) : Type 0 where
  pub nodes_are : nodes ≡ nodes_in_front front ++ nodes_behind behind
  pub in_front : IsInFront front behind
  pub all_merged : AreMerged behind

abbrev pub one_or_more : ℕ → Option ℕ
one_or_more zero = None
one_or_more (suc n) = Some (suc n)

abbrev pub two_as_one : ℕ → Option ℕ
two_as_one zero = None
two_as_one (suc zero) = None
two_as_one (suc (suc n)) = Some (suc n)

-- how many trees the items make, one behind another; none where they make no trees
abbrev pub trees_in : List TreeItem → Option ℕ
trees_in [] = Some 0
trees_in (Close leaf ∷ more) = option_map (λ n. suc n) (trees_in more)
trees_in (Force step ∷ more) = option_and_then one_or_more (trees_in more)
trees_in (Split choice ∷ more) = option_and_then two_as_one (trees_in more)
