use Rattle.std.proofs.Common.{refl, option_map}
use Rattle.log_text.specs.Items.{each_of, list_of}
use Rattle.log_text.specs.Commands.{txn_of}
use Rattle.log_text.specs.Kept.{kept, txns_of}
use Rattle.log_text.proofs.TokensRead.{ok_then, at_array, array_none, is_read_map}
use Rattle.log_text.proofs.fragments.list_of_txns.Goals as goal

pub returns-then-takes_array : goal.returns-then-takes_array
returns-then-takes_array c =
    ok_then c.rest_of_txns.result
    (λ told rest. at_array (txns_of c.args.most) (λ given. option_map (kept c.args.most) (each_of txn_of given)) 3 _ _ _ told (λ given. refl) c.if-takes_array.ensures rest) c.rest_of_txns.ensures

pub returns-else-takes_array : goal.returns-else-takes_array
returns-else-takes_array c = is_read_map (kept c.args.most) (list_of txn_of) 4 _ _ _ (array_none (each_of txn_of) 4 _ _ c.if-takes_array.ensures)
