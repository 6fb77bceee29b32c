use Rattle.std.proofs.Common.{◌≡◌, Some, take}
use Rattle.serde_json.specs.View.{items_view}
use Rattle.log_text.specs.Items.{each_of}
use Rattle.log_text.specs.Refutations.{node_of}
use Rattle.log_text.proofs.tree_items.nodes_of.Given as goal

abbrev pub invariant-loop-item : goal.invariant-loop-item
invariant-loop-item l = each_of (node_of l.names) (items_view (take l.item-index l.item-items)) ≡ Some l.nodes.items
