use Rattle.std.proofs.Common.{◌∙◌, refl}
use Rattle.report_checking.proofs.CheckedLines.{ahead_first, checking_first}
use Rattle.report_checking.proofs.Fronts.{on_err}
use Rattle.report_checking.proofs.ToldLines.{told_front, told_more, told_none, told_wrong}
use Rattle.report_checking.proofs.checking.check_lines.Goals as goal

pub loop-found-init : goal.loop-found-init
loop-found-init g c = record {
  fresh = c.requires.under_way;
  limit = c.requires.limit;
  told = told_none (g.R.ByteSource.remaining c.args.source.now) _ c.args.replay.now.script c.args.tally.now _ c.requires.uncounted (λ input is. checking_first input _ c.args.replay.now.script (ahead_first c.args.reader.now _ input is c.requires.ahead) c.requires.unopened);
  read = refl;
  written = refl;
}

pub returns-in_err-found-clause-front : goal.returns-in_err-found-clause-front
returns-in_err-found-clause-front g c =
    on_err c.from_residual.result _
    (told_front (g.R.ByteSource.remaining c.args.source.now) _ c.loop-found.replay.script c.loop-found.tally (g.W.ByteSink.contents c.args.sink.now) (g.W.ByteSink.contents c.loop-found.sink) (g.W.ByteSink.contents c.check_next.new.sink) c.loop-found.invariant.told c.in_err-found.ensures.front)

pub returns-in-Wrong-clause-told : goal.returns-in-Wrong-clause-told
returns-in-Wrong-clause-told g c =
    told_wrong (g.R.ByteSource.remaining c.args.source.now) _ _ c.loop-found.replay.script c.check_next.new.replay.script c.loop-found.tally c.check_next.new.tally (g.W.ByteSink.contents c.args.sink.now) (g.W.ByteSink.contents c.loop-found.sink) (g.W.ByteSink.contents c.check_next.new.sink) c.in_ok-found.field-0 c.in-Some.found c.in-Wrong.fault c.owes_nothing.result c.in-Some.is c.in-Wrong.is c.owes_nothing.ensures c.loop-found.invariant.told c.in_ok-found.ensures.told c.in_ok-found.ensures.on

pub loop-found-preserved : goal.loop-found-preserved
loop-found-preserved g c =
    let so = c.loop-found.invariant in let next = c.in_ok-found.ensures in
    record {
      fresh = rw c.in-Some.is at next.fresh;
      limit = next.limit ∙ so.limit;
      told = told_more (g.R.ByteSource.remaining c.args.source.now) _ _ c.loop-found.replay.script c.check_next.new.replay.script c.loop-found.tally c.check_next.new.tally (g.W.ByteSink.contents c.args.sink.now) (g.W.ByteSink.contents c.loop-found.sink) (g.W.ByteSink.contents c.check_next.new.sink) c.in_ok-found.field-0 c.in-Some.found c.in-Some.is c.in_default-found.not-Wrong so.told next.told next.on;
      read = next.ok.0 ∙ so.read;
      written = next.ok.1 ∙ so.written;
    }
