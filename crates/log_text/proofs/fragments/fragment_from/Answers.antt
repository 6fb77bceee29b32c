use Rattle.log_text.specs.Kept.{made, txns_of}
use Rattle.log_text.proofs.TokensRead.{is_read, one_none, one_ends, one_goes_on}
use Rattle.log_text.proofs.fragments.fragment_from.Goals as goal

pub returns-in_default : goal.returns-in_default
returns-in_default c = one_none (made c.args.session c.args.first) (txns_of c.args.most) 4 _ _ _ (is_read (txns_of c.args.most) 4 _ _ _ _ c.in_default.is c.in_ok-txns.ensures)

pub returns-then-take_end_array : goal.returns-then-take_end_array
returns-then-take_end_array c =
    one_ends (made c.args.session c.args.first) (txns_of c.args.most) 4 _ _ _ (c.in-Some.txns, c.in-Some.aborted) _ (is_read (txns_of c.args.most) 4 _ _ _ _ c.in-Some.is c.in_ok-txns.ensures) c.if-take_end_array.ensures c.made.ensures

pub returns-else-take_end_array : goal.returns-else-take_end_array
returns-else-take_end_array c =
    one_goes_on (made c.args.session c.args.first) (txns_of c.args.most) 4 _ _ _ (c.in-Some.txns, c.in-Some.aborted) (is_read (txns_of c.args.most) 4 _ _ _ _ c.in-Some.is c.in_ok-txns.ensures) c.if-take_end_array.ensures.0
