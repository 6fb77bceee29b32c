use Rattle.report_checking.proofs.Fronts.{on_err}
use Rattle.report_checking.proofs.ToldLines.{all_right, ends_as, right_so_far, stops_wrong, told_last, told_whole}
use Rattle.report_checking.proofs.checking.check_all.Goals as goal

pub returns-in_err-tell_tally-clause-front : goal.returns-in_err-tell_tally-clause-front
returns-in_err-tell_tally-clause-front g c =
    let left = g.R.ByteSource.remaining c.args.source.now in let first = g.W.ByteSink.contents c.args.sink.now in let before = g.W.ByteSink.contents c.check_lines.new.sink in
    let ends = ends_as c.in_ok-none_is_wrong.none_is_wrong left c.check_lines.new.tally first before c.outcome-outcome.result c.outcome-outcome.ensures c.in_ok-none_is_wrong.ensures.told in
    on_err c.from_residual-in_err-tell_tally.result _
    (told_last c.outcome-outcome.result left c.check_lines.new.tally first before (g.W.ByteSink.contents c.tell_tally.new.sink) ends c.in_err-tell_tally.ensures.front)

pub returns-clause-right : goal.returns-clause-right
returns-clause-right g c =
    let left = g.R.ByteSource.remaining c.args.source.now in let first = g.W.ByteSink.contents c.args.sink.now in let before = g.W.ByteSink.contents c.check_lines.new.sink in
    all_right left c.check_lines.new.tally first before c.outcome-outcome.result
    (ends_as c.in_ok-none_is_wrong.none_is_wrong left c.check_lines.new.tally first before c.outcome-outcome.result c.outcome-outcome.ensures c.in_ok-none_is_wrong.ensures.told)

pub returns-clause-unchecked : goal.returns-clause-unchecked
returns-clause-unchecked g c =
    let left = g.R.ByteSource.remaining c.args.source.now in let first = g.W.ByteSink.contents c.args.sink.now in let before = g.W.ByteSink.contents c.check_lines.new.sink in
    right_so_far left c.check_lines.new.tally first before c.outcome-outcome.result
    (ends_as c.in_ok-none_is_wrong.none_is_wrong left c.check_lines.new.tally first before c.outcome-outcome.result c.outcome-outcome.ensures c.in_ok-none_is_wrong.ensures.told)

pub returns-clause-wrong : goal.returns-clause-wrong
returns-clause-wrong g c =
    let left = g.R.ByteSource.remaining c.args.source.now in let first = g.W.ByteSink.contents c.args.sink.now in let before = g.W.ByteSink.contents c.check_lines.new.sink in
    stops_wrong left c.check_lines.new.tally first before c.outcome-outcome.result
    (ends_as c.in_ok-none_is_wrong.none_is_wrong left c.check_lines.new.tally first before c.outcome-outcome.result c.outcome-outcome.ensures c.in_ok-none_is_wrong.ensures.told)

pub returns-clause-told : goal.returns-clause-told
returns-clause-told g c =
    let left = g.R.ByteSource.remaining c.args.source.now in let first = g.W.ByteSink.contents c.args.sink.now in let before = g.W.ByteSink.contents c.check_lines.new.sink in
    told_whole c.outcome-outcome.result left c.check_lines.new.tally first before (g.W.ByteSink.contents c.tell_tally.new.sink)
    (ends_as c.in_ok-none_is_wrong.none_is_wrong left c.check_lines.new.tally first before c.outcome-outcome.result c.outcome-outcome.ensures c.in_ok-none_is_wrong.ensures.told) c.in_ok-tell_tally.ensures.told
