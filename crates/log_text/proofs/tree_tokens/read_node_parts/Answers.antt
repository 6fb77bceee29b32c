use Rattle.std.proofs.Common.{refl}
use Rattle.log_text.specs.Refutations.{node_named, node_in}
use Rattle.log_text.proofs.FormsRead.{node_law, word_none, word_then}
use Rattle.log_text.proofs.TokensRead.{ok_then}
use Rattle.log_text.proofs.tree_tokens.read_node_parts.Goals as goal

pub returns-in-Some : goal.returns-in-Some
returns-in-Some c = ok_then c.read_named.result (λ found rest. word_then (node_in c.args.names) (node_named c.args.names) (node_law c.args.names) 2 _ _ _ _ found c.in-Some.ensures rest) c.read_named.ensures

pub returns-in-None : goal.returns-in-None
returns-in-None c = word_none (node_in c.args.names) (node_named c.args.names) (node_law c.args.names) refl 2 _ _ _ c.in-None.ensures
