use Rattle.report_checking.proofs.Fronts.{on_err}
use Rattle.report_checking.proofs.ToldLines.{told_nothing}
use Rattle.report_checking.proofs.checking.check_replies.Goals as goal

pub returns-in_err-reader-clause-front : goal.returns-in_err-reader-clause-front
returns-in_err-reader-clause-front g c = on_err c.from_residual.result _ (told_nothing (g.R.ByteSource.remaining c.args.source.now) (g.W.ByteSink.contents c.args.sink.now))
