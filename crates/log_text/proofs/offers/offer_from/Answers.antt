use Rattle.log_text.specs.Kept.{txns_of}
use Rattle.log_text.proofs.OffersRead.{txns_none, txns_then}
use Rattle.log_text.proofs.TokensRead.{is_read, ok_then}
use Rattle.log_text.proofs.offers.offer_from.Goals as goal

pub returns-in_default-clause-form : goal.returns-in_default-clause-form
returns-in_default-clause-form c = txns_none c.args.most c.args.session c.args.first _ _ _ (is_read (txns_of c.args.most) 4 _ _ _ _ c.in_default.is c.in_ok-txns.ensures)

pub returns-clause-form : goal.returns-clause-form
returns-clause-form c =
    ok_then c.times.result
    (λ found rest. txns_then c.args.most c.args.session c.args.first _ _ _ (c.in-Some.txns, c.in-Some.aborted) _ found (is_read (txns_of c.args.most) 4 _ _ _ _ c.in-Some.is c.in_ok-txns.ensures) c.made-logged.ensures rest) c.times.ensures.form
