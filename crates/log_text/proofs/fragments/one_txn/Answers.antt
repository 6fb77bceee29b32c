use Rattle.log_text.specs.Commands.{txn_in}
use Rattle.log_text.proofs.TokensRead.{ok_then, array_then, array_none}
use Rattle.log_text.proofs.fragments.one_txn.Goals as goal

pub returns-then-takes_array : goal.returns-then-takes_array
returns-then-takes_array c = ok_then c.parts_of_txn.result (λ found rest. array_then txn_in 2 _ _ _ found c.if-takes_array.ensures rest) c.parts_of_txn.ensures

pub returns-else-takes_array : goal.returns-else-takes_array
returns-else-takes_array c = array_none txn_in 3 _ _ c.if-takes_array.ensures
