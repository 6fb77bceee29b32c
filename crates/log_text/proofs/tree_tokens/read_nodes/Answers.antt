use Rattle.log_text.specs.Owed.{nodes_in}
use Rattle.log_text.proofs.TokensRead.{ok_then, array_then, array_none}
use Rattle.log_text.proofs.tree_tokens.read_nodes.Goals as goal

pub returns-then-takes_array : goal.returns-then-takes_array
returns-then-takes_array c = ok_then c.rest_of_nodes.result (λ found rest. array_then (nodes_in c.args.names 1) 3 _ _ _ found c.if-takes_array.ensures rest) c.rest_of_nodes.ensures

pub returns-else-takes_array : goal.returns-else-takes_array
returns-else-takes_array c = array_none (nodes_in c.args.names 1) 4 _ _ c.if-takes_array.ensures
