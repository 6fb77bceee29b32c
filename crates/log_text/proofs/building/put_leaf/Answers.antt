use Rattle.log_text.proofs.BuiltTrees.{leaf_built}
use Rattle.log_text.proofs.building.put_leaf.Goals as goal

pub returns : goal.returns
returns c nodes built =
    leaf_built c.args.leaf c.front_of.result c.put_behind.new.behind.items nodes c.front_of.ensures.steps c.front_of.ensures.rest (c.in_ok-put_behind.ensures nodes built)
