use Rattle.report_checking.proofs.CheckedLines.{advances_to}
use Rattle.report_checking.proofs.Fronts.{on_err}
use Rattle.report_checking.proofs.ToldLines.{line_front}
use Rattle.report_checking.proofs.checking.check_next.Goals as goal

pub returns-clause-on : goal.returns-clause-on
returns-clause-on g c =
    advances_to c.args.reader.now.limit c.next_line.new.self.limit _ _ _ c.in_ok-next.next c.in_ok-found.found c.args.replay.now.script c.check_reply.new.replay.script c.in_ok-next.ensures.limit (c.in_ok-next.ensures.next c.requires.fresh) c.in_default.not-End c.in_ok-found.ensures.on c.in_ok-found.ensures.stops

pub returns-in_err-tell-clause-front : goal.returns-in_err-tell-clause-front
returns-in_err-tell-clause-front g c =
    on_err c.from_residual-in_err-tell.result _
    (line_front c.args.reader.now.limit c.next_line.new.self.limit _ _ _ c.in_ok-next.next c.in_ok-found.found c.args.replay.now.script c.check_reply.new.replay.script c.args.tally.now c.count.new.self (g.W.ByteSink.contents c.args.sink.now) (g.W.ByteSink.contents c.tell.new.sink) c.in_ok-next.ensures.limit (c.in_ok-next.ensures.next c.requires.fresh) c.in_default.not-End c.in_ok-found.ensures.on c.in_ok-found.ensures.stops c.count.ensures c.in_err-tell.ensures.front)
