use Rattle.std.proofs.Common.{refl, arith}
use Rattle.log_text.specs.Named.{id_with}
use Rattle.log_text.specs.Numbers.{whole_number, session_of}
use Rattle.log_text.proofs.FormsRead.{two_none, two_then, one_none, one_over, one_open}
use Rattle.log_text.proofs.named.plain_id_parts.Goals as goal

pub returns-in_default : goal.returns-in_default
returns-in_default c = two_none id_with session_of whole_number 0 0 _ _ _ _ (omega arith) refl c.in_default.ensures

pub returns-in_default-number : goal.returns-in_default-number
returns-in_default-number c =
    two_then id_with session_of whole_number 0 0 _ _ _ _ _ _ (omega arith) refl c.in-Some.ensures (one_none (id_with c.in-Some.session) whole_number 0 0 _ _ _ _ (omega arith) refl c.in_default-number.ensures)

pub returns-then-take_end_array : goal.returns-then-take_end_array
returns-then-take_end_array c =
    two_then id_with session_of whole_number 0 0 _ _ _ _ _ _ (omega arith) refl c.in-Some.ensures
    (one_over (id_with c.in-Some.session) whole_number 0 0 _ _ _ _ _ (omega arith) refl c.in-Some-number.ensures c.if-take_end_array.ensures)

pub returns-else-take_end_array : goal.returns-else-take_end_array
returns-else-take_end_array c =
    two_then id_with session_of whole_number 0 0 _ _ _ _ _ _ (omega arith) refl c.in-Some.ensures
    (one_open (id_with c.in-Some.session) whole_number 0 0 _ _ _ _ _ (omega arith) refl c.in-Some-number.ensures c.if-take_end_array.ensures.0)
