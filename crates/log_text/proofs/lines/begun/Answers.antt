use Rattle.std.proofs.Common.{refl}
use Rattle.log_text.specs.Items.{list_of}
use Rattle.log_text.specs.Commands.{flag_of}
use Rattle.log_text.proofs.TokensRead.{is_read}
use Rattle.log_text.proofs.MarksRead.{nothing_begun, begun_none, begun_then, begun_open}
use Rattle.log_text.proofs.lines.begun.Goals as goal

pub returns-then-take_end_array-clause-form : goal.returns-then-take_end_array-clause-form
returns-then-take_end_array-clause-form c = nothing_begun c.args.marks c.args.closed _ _ _ c.if-take_end_array.ensures refl

pub returns-in_default-clause-form : goal.returns-in_default-clause-form
returns-in_default-clause-form c = begun_none c.args.marks c.args.closed _ _ _ _ c.if-take_end_array.ensures.0 c.if-take_end_array.ensures.1 (is_read (list_of flag_of) 1 _ _ _ _ c.in_default.is c.in_ok-begun.ensures)

pub returns-then-take_end_array-2-clause-form : goal.returns-then-take_end_array-2-clause-form
returns-then-take_end_array-2-clause-form c =
    begun_then c.args.marks c.args.closed _ _ _ _ c.in-Some.begun _ c.if-take_end_array.ensures.1 (is_read (list_of flag_of) 1 _ _ _ _ c.in-Some.is c.in_ok-begun.ensures) c.if-take_end_array-2.ensures refl

pub returns-else-take_end_array-2-clause-form : goal.returns-else-take_end_array-2-clause-form
returns-else-take_end_array-2-clause-form c =
    begun_open c.args.marks c.args.closed _ _ _ _ c.in-Some.begun c.if-take_end_array.ensures.1 (is_read (list_of flag_of) 1 _ _ _ _ c.in-Some.is c.in_ok-begun.ensures) c.if-take_end_array-2.ensures.0
