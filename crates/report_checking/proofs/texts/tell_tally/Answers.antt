use Rattle.std.proofs.Common.{◌∙◌}
use Rattle.report_checking.specs.Telling.{last_line}
use Rattle.report_checking.proofs.Fronts.{on_err, front_written}
use Rattle.report_checking.proofs.texts.tell_tally.Goals as goal

pub returns-in_err-write_all-clause-front : goal.returns-in_err-write_all-clause-front
returns-in_err-write_all-clause-front g c =
    on_err c.from_residual-in_err-write_all.result _
    (front_written _ _ c.as_bytes.result.now (last_line c.args.tally.now c.args.outcome) c.in_err-write_all.ensures.front (c.as_bytes.ensures.value ∙ c.in_ok-line.ensures))
