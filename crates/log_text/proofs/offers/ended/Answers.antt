use Rattle.std.proofs.Common.{refl}
use Rattle.log_text.specs.Items.{list_of}
use Rattle.log_text.specs.Numbers.{whole_number}
use Rattle.log_text.specs.declared.commands.Command.TheVariants.{OfferTimed}
use Rattle.log_text.proofs.TokensRead.{is_read, one_none, one_ends, one_goes_on}
use Rattle.log_text.proofs.offers.ended.Goals as goal

pub returns-in_default-clause-form : goal.returns-in_default-clause-form
returns-in_default-clause-form c = one_none (OfferTimed c.args.logged c.args.began) (list_of whole_number) 1 _ _ _ (is_read (list_of whole_number) 1 _ _ _ _ c.in_default.is c.in_ok-ended.ensures)

pub returns-then-take_end_array-clause-form : goal.returns-then-take_end_array-clause-form
returns-then-take_end_array-clause-form c =
    one_ends (OfferTimed c.args.logged c.args.began) (list_of whole_number) 1 _ _ _ c.in-Some.ended _ (is_read (list_of whole_number) 1 _ _ _ _ c.in-Some.is c.in_ok-ended.ensures) c.if-take_end_array.ensures refl

pub returns-else-take_end_array-clause-form : goal.returns-else-take_end_array-clause-form
returns-else-take_end_array-clause-form c =
    one_goes_on (OfferTimed c.args.logged c.args.began) (list_of whole_number) 1 _ _ _ c.in-Some.ended (is_read (list_of whole_number) 1 _ _ _ _ c.in-Some.is c.in_ok-ended.ensures) c.if-take_end_array.ensures.0
