use Rattle.std.proofs.Common.{length}
use Rattle.log_text.specs.Commands.{read_of}
use Rattle.log_text.specs.Streams.{ReadSoFar}
use Rattle.log_text.proofs.fragments.rest_of_reads.Given as goal

abbrev pub invariant-loop-reader : goal.invariant-loop-reader
invariant-loop-reader l = ReadSoFar read_of 1 l.initial.reader l.reads.items l.reader

abbrev pub decreases-loop-reader : goal.decreases-loop-reader
decreases-loop-reader l = length l.reader
