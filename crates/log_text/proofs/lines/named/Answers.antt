use Rattle.log_text.proofs.HeldForms.{named_offer, named_join, named_marks, named_last, named_plain, other_word}
use Rattle.log_text.proofs.TokensRead.{ok_then}
use Rattle.log_text.proofs.lines.named.Goals as goal

pub returns-in-offer-clause-form : goal.returns-in-offer-clause-form
returns-in-offer-clause-form c = ok_then c.offer.result (λ found read. named_offer c.args.most c.args.name.now _ _ found c.in-offer.is read) c.offer.ensures.form

pub returns-in-join-clause-form : goal.returns-in-join-clause-form
returns-in-join-clause-form c = ok_then c.join.result (λ found read. named_join c.args.most c.args.name.now _ _ found c.in-join.is read) c.join.ensures.form

pub returns-in-marks-clause-form : goal.returns-in-marks-clause-form
returns-in-marks-clause-form c = ok_then c.marks.result (λ found read. named_marks c.args.most c.args.name.now _ _ found c.in-marks.is read) c.marks.ensures.form

pub returns-in-last-clause-form : goal.returns-in-last-clause-form
returns-in-last-clause-form c = ok_then c.last.result (λ found read. named_last c.args.most c.args.name.now _ _ found c.in-last.is read) c.last.ensures.form

pub returns-in_default-clause-form : goal.returns-in_default-clause-form
returns-in_default-clause-form c =
    ok_then c.plain.result
    (λ found read. named_plain c.args.most c.args.name.now _ _ found (other_word _ _ c.in_default.not-offer) (other_word _ _ c.in_default.not-join) (other_word _ _ c.in_default.not-marks) (other_word _ _ c.in_default.not-last) read) c.plain.ensures.form
