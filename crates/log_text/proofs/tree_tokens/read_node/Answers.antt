use Rattle.log_text.specs.Refutations.{node_in}
use Rattle.log_text.proofs.TokensRead.{ok_then, array_then, array_none}
use Rattle.log_text.proofs.tree_tokens.read_node.Goals as goal

pub returns-then-takes_array : goal.returns-then-takes_array
returns-then-takes_array c = ok_then c.read_node_parts.result (λ found rest. array_then (node_in c.args.names) 2 _ _ _ found c.if-takes_array.ensures rest) c.read_node_parts.ensures

pub returns-else-takes_array : goal.returns-else-takes_array
returns-else-takes_array c = array_none (node_in c.args.names) 3 _ _ c.if-takes_array.ensures
