use Rattle.report_checking.proofs.CheckedLines.{leads_on, long_enough, not_end}
use Rattle.report_checking.proofs.Stopping.{stops_at}
use Rattle.report_checking.proofs.checking.check_reply.Goals as goal

pub returns-clause-on : goal.returns-clause-on
returns-clause-on g c =
    leads_on c.args.reader.now.limit _ _ c.args.next c.as_line-line.result c.in_ok-stored.stored c.in_ok-found.found c.args.replay.now.script c.found_behind.new.replay.script (long_enough c.args.reader.now.limit c.requires.limit) c.as_line-line.ensures (c.in_ok-stored.ensures.next c.requires.fresh) c.in_ok-found.ensures.finds

pub returns-clause-fewer : goal.returns-clause-fewer
returns-clause-fewer g c = λ fine.
    c.in_ok-stored.ensures.fewer (not_end c.args.replay.now.script c.found_behind.new.replay.script c.as_line-line.result c.in_ok-stored.stored c.in_ok-found.found c.in_ok-found.ensures.finds fine)

pub returns-clause-stops : goal.returns-clause-stops
returns-clause-stops g c =
    stops_at c.args.reader.now.limit _ _ c.args.next c.as_line-line.result c.in_ok-stored.stored c.in_ok-found.found c.args.replay.now.script c.found_behind.new.replay.script c.requires.limit c.as_line-line.ensures (c.in_ok-stored.ensures.next c.requires.fresh) c.in_ok-found.ensures.finds c.in_ok-found.ensures.fair c.in_ok-found.ensures.otherwise
