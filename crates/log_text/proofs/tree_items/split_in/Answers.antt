use Rattle.std.proofs.Common.{◌≢◌, length, arith}
use Rattle.log_text.specs.Refutations.{choice_of}
use Rattle.log_text.specs.declared.tree_items.TreeItem.TheVariants as node
use Rattle.log_text.proofs.Arity.{one_item_none}
use Rattle.log_text.proofs.tree_items.split_in.Goals as goal

pub returns-in_default : goal.returns-in_default
returns-in_default c =
    let other : length c.args.items.now ≢ 1 = grind arith in
    one_item_none (λ choice. node.Split choice) (choice_of c.args.names) c.args.items.now other
