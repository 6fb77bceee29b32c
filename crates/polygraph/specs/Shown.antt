-- For private clauses: what a search of a node finds, and how it is shown.
use Rattle.std.specs.Prelude.{ℕ, ◌+◌, ◌*◌, ◌≤◌, ⊤, List, ◌∷◌, length, take}
use Rattle.txn.specs.declared.transactions.TxnId.{TxnId}
use Rattle.txn.specs.declared.choices.Choice.{Choice}
use Rattle.txn.specs.declared.choices.Side.{Side}
use Rattle.order_check.specs.declared.remainder.Parts.{Parts}
use Rattle.order_check.specs.BadReads.{IsNoWrite, IsGoneRead}
use Rattle.order_check.specs.Cycles.{Sides, sides_after}
use Rattle.order_check.specs.Explains.{Explains}
use Rattle.order_check.specs.Search.{Outcome, has_order, no_order, used_up, IsHopeless}
use Rattle.order_check.specs.TakenSides.{KeepsSides}
use Rattle.refutation.specs.declared.trees.Leaf.{Leaf}
use Rattle.refutation.specs.declared.trees.Leaf.TheVariants as leaves
use Rattle.refutation.specs.Pruned.{Stands}
use Rattle.refutation.specs.Refutes.{IsClosed, Refutes, depth_of}
use Rattle.clock_choices.specs.BranchState.{BranchState, arc_of, assumed, all_taken, last_steps, taken_before}
use Rattle.polygraph.specs.declared.bad_reads.BadRead.{BadRead}
use Rattle.polygraph.specs.declared.bad_reads.BadRead.TheVariants as bad_reads
use Rattle.polygraph.specs.declared.found.Found.{Found}
use Rattle.polygraph.specs.declared.found.Found.TheVariants as at_node
use Rattle.polygraph.specs.declared.solving.Cube.{Cube}
use Rattle.polygraph.specs.declared.solving.Cube.TheVariants as cubes

-- the read is one that no order explains
abbrev pub IsBadRead : Parts → BadRead → Type 0
IsBadRead parts (bad_reads.Silent reader key) = IsNoWrite parts reader key
IsBadRead parts (bad_reads.Overwritten reader key) = IsGoneRead parts reader key

-- the leaf that shows it
abbrev pub leaf_of : BadRead → Leaf
leaf_of (bad_reads.Silent reader key) = leaves.NoWrite reader key
leaf_of (bad_reads.Overwritten reader key) = leaves.Gone reader key

-- no order keeps the sides of the branch, as the leaf shows
pub record IsClosedBy (branch : BranchState) (leaf : Leaf) : Type 0 where
  pub hopeless : IsHopeless branch.parts (assumed branch.levels)
  pub shown : IsClosed branch.parts (all_taken branch.log branch.levels) leaf

-- what a search found, without what shows it
abbrev pub outcome_of : Cube → Outcome
outcome_of (cubes.Yes order) = has_order
outcome_of (cubes.No tree) = no_order
outcome_of cubes.Spent = used_up

-- where an order was found, it keeps these sides
abbrev pub OrderKeeps : Sides → Cube → Type 0
OrderKeeps sides (cubes.Yes order) = KeepsSides order sides
OrderKeeps sides (cubes.No tree) = ⊤
OrderKeeps sides cubes.Spent = ⊤

-- what is told of what was found at a node: of what is kept of a tree the tree
abbrev pub told_of : Found → Cube
told_of (at_node.Yes order) = cubes.Yes order
told_of (at_node.No pruned) = cubes.No pruned.tree
told_of at_node.Spent = cubes.Spent

-- what is found at the node of the branch is shown: what is kept of a tree stands below all that is forced there
abbrev pub IsShown : BranchState → Found → Type 0
IsShown branch (at_node.Yes order) = Explains branch.parts order
IsShown branch (at_node.No pruned) = Stands branch.parts (all_taken branch.log branch.levels) pruned × (depth_of pruned.tree + 2 * length branch.levels ≤ 4094)
IsShown branch at_node.Spent = ⊤

-- the same where one more side is assumed: what is kept of a tree stands above what that side forces
abbrev pub IsShownBeyond : BranchState → Choice → Side → Found → Type 0
IsShownBeyond branch choice side (at_node.Yes order) = Explains branch.parts order
IsShownBeyond branch choice side (at_node.No pruned) = Stands branch.parts (arc_of choice side ∷ all_taken branch.log branch.levels) pruned × (depth_of pruned.tree + 2 * length branch.levels ≤ 4093)
IsShownBeyond branch choice side at_node.Spent = ⊤

-- above its steps what is kept of a tree stands from these sides on, and is at most so deep
abbrev pub StandsAbove : Parts → List (TxnId × TxnId) → ℕ → ℕ → Found → Type 0
StandsAbove parts taken more most (at_node.Yes order) = Explains parts order
StandsAbove parts taken more most (at_node.No pruned) = Stands parts taken pruned × (depth_of pruned.tree + more ≤ most)
StandsAbove parts taken more most at_node.Spent = ⊤

-- the sides taken up to so many of the branch's last steps
abbrev pub taken_up_to : BranchState → ℕ → List (TxnId × TxnId)
taken_up_to branch count = sides_after (taken_before branch.log branch.levels) (take count (last_steps branch.log branch.levels))

-- What stood behind the branch's last steps stands above them, one node deeper.
abbrev pub StandsAboveLast : BranchState → Found → Found → Type 0
StandsAboveLast branch found whole =
    (more most : ℕ) → StandsAbove branch.parts (all_taken branch.log branch.levels) more most found → StandsAbove branch.parts (taken_before branch.log branch.levels) more (most + 1) whole

-- What stood behind all of the branch's steps stands above them, one node deeper.
abbrev pub StandsAboveAll : BranchState → Found → Found → Type 0
StandsAboveAll branch found whole =
    (more most : ℕ) → StandsAbove branch.parts (all_taken branch.log branch.levels) more most found → StandsAbove branch.parts (assumed branch.levels) more (most + 1) whole

-- above its steps a tree refutes the parts from these sides on, and is at most so deep
abbrev pub IsAbove : Parts → List (TxnId × TxnId) → ℕ → ℕ → Cube → Type 0
IsAbove parts taken more most (cubes.Yes order) = Explains parts order
IsAbove parts taken more most (cubes.No tree) = Refutes parts tree taken × (depth_of tree + more ≤ most)
IsAbove parts taken more most cubes.Spent = ⊤
