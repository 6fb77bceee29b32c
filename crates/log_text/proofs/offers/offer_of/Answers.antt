use Rattle.log_text.proofs.OffersRead.{first_none, first_then}
use Rattle.log_text.proofs.TokensRead.{ok_then}
use Rattle.log_text.proofs.offers.offer_of.Goals as goal

pub returns-in-Some-clause-form : goal.returns-in-Some-clause-form
returns-in-Some-clause-form c = ok_then c.offer_from.result (λ found rest. first_then c.args.most c.args.session _ _ _ c.in-Some.first found c.in-Some.ensures rest) c.offer_from.ensures.form

pub returns-in-None-clause-form : goal.returns-in-None-clause-form
returns-in-None-clause-form c = first_none c.args.most c.args.session _ _ _ c.in-None.ensures
