use Rattle.std.proofs.Common.{Some, refl, sym, ap, arith}
use Rattle.log_text.specs.Items.{three_items}
use Rattle.log_text.specs.Named.{commit_by, half_with, low_number}
use Rattle.log_text.specs.Numbers.{session_of}
use Rattle.log_text.proofs.FormsRead.{three_none, three_then, two_none, two_then, one_none, one_over, one_open}
use Rattle.log_text.proofs.TokensRead.{are_read}
use Rattle.log_text.proofs.named.half_parts.Goals as goal

pub returns-in_default : goal.returns-in_default
returns-in_default c = three_none half_with session_of low_number commit_by 0 0 _ _ _ _ (omega arith) refl c.in_default.ensures

pub returns-in_default-next_low : goal.returns-in_default-next_low
returns-in_default-next_low c =
    three_then half_with session_of low_number commit_by 0 0 _ _ _ _ _ _ (omega arith) refl c.in-Some.ensures
    (two_none (half_with c.in-Some.session) low_number commit_by 0 0 _ _ _ _ (omega arith) refl c.in_default-next_low.ensures.form)

pub returns-in_default-next_commit : goal.returns-in_default-next_commit
returns-in_default-next_commit c =
    three_then half_with session_of low_number commit_by 0 0 _ _ _ _ _ _ (omega arith) refl c.in-Some.ensures
    (two_then (half_with c.in-Some.session) low_number commit_by 0 0 _ _ _ _ _ _ (omega arith) refl c.in-Some-next_low.ensures.form
    (one_none (half_with c.in-Some.session c.in-Some-next_low.number) commit_by 0 0 _ _ _ _ (omega arith) refl c.in_default-next_commit.ensures))

pub returns-then-take_end_array : goal.returns-then-take_end_array
returns-then-take_end_array c =
    are_read (three_items half_with session_of low_number commit_by) 0 _ _ _ _ (ap Some (sym c.half_with.ensures))
    (three_then half_with session_of low_number commit_by 0 0 _ _ _ _ _ _ (omega arith) refl c.in-Some.ensures
    (two_then (half_with c.in-Some.session) low_number commit_by 0 0 _ _ _ _ _ _ (omega arith) refl c.in-Some-next_low.ensures.form
    (one_over (half_with c.in-Some.session c.in-Some-next_low.number) commit_by 0 0 _ _ _ _ _ (omega arith) refl c.in-Some-next_commit.ensures c.if-take_end_array.ensures)))

pub returns-else-take_end_array : goal.returns-else-take_end_array
returns-else-take_end_array c =
    three_then half_with session_of low_number commit_by 0 0 _ _ _ _ _ _ (omega arith) refl c.in-Some.ensures
    (two_then (half_with c.in-Some.session) low_number commit_by 0 0 _ _ _ _ _ _ (omega arith) refl c.in-Some-next_low.ensures.form
    (one_open (half_with c.in-Some.session c.in-Some-next_low.number) commit_by 0 0 _ _ _ _ _ (omega arith) refl c.in-Some-next_commit.ensures c.if-take_end_array.ensures.0))
