use Rattle.log_text.specs.Items.{each_of}
use Rattle.log_text.specs.Commands.{writer_of}
use Rattle.log_text.proofs.TokensRead.{ok_then, array_then, array_none}
use Rattle.log_text.proofs.handed.writers.Goals as goal

pub returns-then-takes_array : goal.returns-then-takes_array
returns-then-takes_array c = ok_then c.rest_of_writers.result (λ found rest. array_then (each_of writer_of) 1 _ _ _ found c.if-takes_array.ensures rest) c.rest_of_writers.ensures

pub returns-else-takes_array : goal.returns-else-takes_array
returns-else-takes_array c = array_none (each_of writer_of) 2 _ _ c.if-takes_array.ensures
