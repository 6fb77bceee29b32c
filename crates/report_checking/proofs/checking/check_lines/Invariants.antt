-- Nothing wrong was found so far.
use Rattle.std.proofs.Common.{◌≡◌, [], Some}
use Rattle.byte_lines.specs.LineReaders.{lines_ahead, lines_left}
use Rattle.report_checking.specs.declared.checking.TheConstants.{LONGEST_REPLY}
use Rattle.report_checking.proofs.ToldLines.{HasTold}
use Rattle.report_checking.proofs.checking.check_lines.Given as goal

abbrev pub invariant-loop-found : goal.invariant-loop-found
invariant-loop-found g l = record {
  fresh : l.reader.under_way ≡ Some [];
  limit : l.reader.limit ≡ LONGEST_REPLY;
  told : HasTold (g.R.ByteSource.remaining l.initial.source) (lines_ahead l.reader (g.R.ByteSource.remaining l.source)) l.replay.script l.tally (g.W.ByteSink.contents l.initial.sink) (g.W.ByteSink.contents l.sink);
  read : g.R.ByteSource.faults l.source ≡ g.R.ByteSource.faults l.initial.source;
  written : g.W.ByteSink.faults l.sink ≡ g.W.ByteSink.faults l.initial.sink;
}

abbrev pub decreases-loop-found : goal.decreases-loop-found
decreases-loop-found g l = lines_left l.reader (g.R.ByteSource.reads_left l.source)
