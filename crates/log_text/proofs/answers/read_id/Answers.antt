use Rattle.log_text.specs.Named.{id_in}
use Rattle.log_text.proofs.TokensRead.{array_then, array_none}
use Rattle.log_text.proofs.answers.read_id.Goals as goal

pub returns-then-takes_array : goal.returns-then-takes_array
returns-then-takes_array c = array_then (id_in c.args.names) 0 _ _ _ _ c.if-takes_array.ensures c.read_id_parts.ensures

pub returns-else-takes_array : goal.returns-else-takes_array
returns-else-takes_array c = array_none (id_in c.args.names) 1 _ _ c.if-takes_array.ensures
