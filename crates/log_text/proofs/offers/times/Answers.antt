use Rattle.std.proofs.Common.{refl}
use Rattle.log_text.specs.Items.{list_of}
use Rattle.log_text.specs.Numbers.{whole_number}
use Rattle.log_text.proofs.OffersRead.{no_times, began_none, began_then}
use Rattle.log_text.proofs.TokensRead.{is_read, ok_then}
use Rattle.log_text.proofs.offers.times.Goals as goal

pub returns-then-take_end_array-clause-form : goal.returns-then-take_end_array-clause-form
returns-then-take_end_array-clause-form c = no_times c.args.logged _ _ _ c.if-take_end_array.ensures refl

pub returns-in-Some-clause-form : goal.returns-in-Some-clause-form
returns-in-Some-clause-form c =
    ok_then c.ended.result
    (λ found rest. began_then c.args.logged _ _ _ _ c.in-Some.began found c.if-take_end_array.ensures.1 (is_read (list_of whole_number) 1 _ _ _ _ c.in-Some.is c.in_ok-began.ensures) rest) c.ended.ensures.form

pub returns-in-None-clause-form : goal.returns-in-None-clause-form
returns-in-None-clause-form c = began_none c.args.logged _ _ _ _ c.if-take_end_array.ensures.0 c.if-take_end_array.ensures.1 (is_read (list_of whole_number) 1 _ _ _ _ c.in-None.is c.in_ok-began.ensures)
