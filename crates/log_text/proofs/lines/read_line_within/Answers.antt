use Rattle.std.proofs.Common.{◌≡◌, refl, inr, arith}
use Rattle.log_text.proofs.LinesRead.{no_line}
use Rattle.log_text.proofs.lines.read_line_within.Goals as goal

pub returns-in-Ok-None-clause-err : goal.returns-in-Ok-None-clause-err
returns-in-Ok-None-clause-err c = inr (refl, no_line c.args.names c.args.most c.in-Ok.text.now c.args.line.now _ (let same : c.in-Ok.text.now ≡ c.args.line.now = grind arith in same) c.in-Ok-None.field-0-is c.in-Ok-None.ensures.form)
