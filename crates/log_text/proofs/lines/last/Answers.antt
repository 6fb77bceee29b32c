use Rattle.std.proofs.Common.{refl}
use Rattle.log_text.specs.Items.{list_of}
use Rattle.log_text.specs.Commands.{writer_of}
use Rattle.log_text.specs.declared.commands.Command.TheVariants.{Last}
use Rattle.log_text.proofs.TokensRead.{is_read, one_none, one_ends, one_goes_on}
use Rattle.log_text.proofs.lines.last.Goals as goal

pub returns-in_default-clause-form : goal.returns-in_default-clause-form
returns-in_default-clause-form c = one_none Last (list_of writer_of) 2 _ _ _ (is_read (list_of writer_of) 2 _ _ _ _ c.in_default.is c.in_ok-writers.ensures)

pub returns-then-take_end_array-clause-form : goal.returns-then-take_end_array-clause-form
returns-then-take_end_array-clause-form c = one_ends Last (list_of writer_of) 2 _ _ _ c.in-Some.writers _ (is_read (list_of writer_of) 2 _ _ _ _ c.in-Some.is c.in_ok-writers.ensures) c.if-take_end_array.ensures refl

pub returns-else-take_end_array-clause-form : goal.returns-else-take_end_array-clause-form
returns-else-take_end_array-clause-form c = one_goes_on Last (list_of writer_of) 2 _ _ _ c.in-Some.writers (is_read (list_of writer_of) 2 _ _ _ _ c.in-Some.is c.in_ok-writers.ensures) c.if-take_end_array.ensures.0
