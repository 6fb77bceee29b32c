use Rattle.log_text.proofs.HeldForms.{offer_read}
use Rattle.log_text.proofs.OffersRead.{session_none, session_then}
use Rattle.log_text.proofs.TokensRead.{ok_then}
use Rattle.log_text.proofs.offers.offer.Goals as goal

pub returns-in-Some-clause-form : goal.returns-in-Some-clause-form
returns-in-Some-clause-form c =
    ok_then c.offer_of.result (λ found rest. offer_read c.args.most _ _ found (session_then c.args.most _ _ _ c.in-Some.session found c.in-Some.ensures rest)) c.offer_of.ensures.form

pub returns-in-None-clause-form : goal.returns-in-None-clause-form
returns-in-None-clause-form c = offer_read c.args.most _ _ _ (session_none c.args.most _ _ _ c.in-None.ensures)
