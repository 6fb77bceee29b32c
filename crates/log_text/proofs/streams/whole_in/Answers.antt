use Rattle.std.proofs.Common.{sym, ap, ◌∙◌}
use Rattle.log_text.specs.Streams.{whole_in, whole_of}
use Rattle.log_text.proofs.NumbersRead.{minus_none, whole_scanned}
use Rattle.log_text.proofs.streams.whole_in.Goals as goal

pub returns-then-has_minus : goal.returns-then-has_minus
returns-then-has_minus c = minus_none c.as_bytes-bytes.result.now (sym c.if-has_minus.ensures) ∙ ap whole_in c.as_bytes-bytes.ensures.value

pub returns-else-has_minus : goal.returns-else-has_minus
returns-else-has_minus c = c.whole_of.ensures ∙ ap whole_of c.scan.ensures.parts ∙ whole_scanned c.as_bytes-bytes.result.now (sym c.if-has_minus.ensures) ∙ ap whole_in c.as_bytes-bytes.ensures.value
