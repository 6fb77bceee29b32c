-- A script is under way, and what was written so far answers the lines before the one that is next.
use Rattle.std.proofs.Common.{◌≡◌, ℕ, List, [], Some}
use Rattle.std.specs.Io.KnownBytes.{Appends}
use Rattle.byte_lines.specs.declared.lines.TheConstants.{LONGEST_LINE}
use Rattle.byte_lines.specs.LineReaders.{lines_left}
use Rattle.cobra.proofs.ServedLines.{IsServing}
use Rattle.cobra.proofs.serving.serve_lines.Given as goal

abbrev pub invariant-loop-next : goal.invariant-loop-next
invariant-loop-next g l = record {
  fresh : l.reader.under_way ≡ Some [];
  limit : l.reader.limit ≡ LONGEST_LINE;
  told : (input : List ℕ) → g.R.ByteSource.remaining l.initial.source ≡ Some input → (output : List ℕ) × Appends (g.W.ByteSink.contents l.initial.sink) (g.W.ByteSink.contents l.sink) output × IsServing input l.reader (g.R.ByteSource.remaining l.source) (g.R.ByteSource.last_read l.source) output l.script.stage [];
  read : g.R.ByteSource.faults l.source ≡ g.R.ByteSource.faults l.initial.source;
  written : g.W.ByteSink.faults l.sink ≡ g.W.ByteSink.faults l.initial.sink;
}

abbrev pub decreases-loop-next : goal.decreases-loop-next
decreases-loop-next g l = lines_left l.reader (g.R.ByteSource.reads_left l.source)
