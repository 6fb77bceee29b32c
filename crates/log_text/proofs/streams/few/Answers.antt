use Rattle.log_text.specs.Streams.{few_in}
use Rattle.log_text.proofs.TokensRead.{ok_then, array_then, array_none}
use Rattle.log_text.proofs.streams.few.Goals as goal

pub returns-then-takes_array : goal.returns-then-takes_array
returns-then-takes_array c = ok_then c.atoms.result (λ found rest. array_then (few_in c.args.most) 0 _ _ _ _ c.if-takes_array.ensures rest) c.atoms.ensures

pub returns-else-takes_array : goal.returns-else-takes_array
returns-else-takes_array c = array_none (few_in c.args.most) 1 _ _ c.if-takes_array.ensures
