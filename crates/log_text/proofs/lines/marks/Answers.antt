use Rattle.log_text.specs.Items.{list_of}
use Rattle.log_text.specs.Numbers.{whole_number}
use Rattle.log_text.specs.Commands.{flag_of}
use Rattle.log_text.proofs.TokensRead.{is_read, ok_then}
use Rattle.log_text.proofs.MarksRead.{marks_none, marks_then, closed_none, closed_then}
use Rattle.log_text.proofs.lines.marks.Goals as goal

pub returns-in_default-clause-form : goal.returns-in_default-clause-form
returns-in_default-clause-form c = marks_none _ _ _ (is_read (list_of whole_number) 1 _ _ _ _ c.in_default.is c.in_ok-marks.ensures)

pub returns-in_default-2-clause-form : goal.returns-in_default-2-clause-form
returns-in_default-2-clause-form c =
    marks_then _ _ _ c.in-Some.marks _ (is_read (list_of whole_number) 1 _ _ _ _ c.in-Some.is c.in_ok-marks.ensures)
    (closed_none c.in-Some.marks _ _ _ (is_read (list_of flag_of) 1 _ _ _ _ c.in_default-2.is c.in_ok-closed.ensures))

pub returns-clause-form : goal.returns-clause-form
returns-clause-form c =
    ok_then c.begun.result
    (λ found rest. marks_then _ _ _ c.in-Some.marks found (is_read (list_of whole_number) 1 _ _ _ _ c.in-Some.is c.in_ok-marks.ensures)
    (closed_then c.in-Some.marks _ _ _ c.in-Some-2.closed found (is_read (list_of flag_of) 1 _ _ _ _ c.in-Some-2.is c.in_ok-closed.ensures) rest)) c.begun.ensures.form
