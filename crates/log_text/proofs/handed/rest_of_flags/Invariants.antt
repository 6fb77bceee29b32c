use Rattle.std.proofs.Common.{length}
use Rattle.log_text.specs.Commands.{flag_of}
use Rattle.log_text.specs.Streams.{ReadSoFar}
use Rattle.log_text.proofs.handed.rest_of_flags.Given as goal

abbrev pub invariant-loop-reader : goal.invariant-loop-reader
invariant-loop-reader l = ReadSoFar flag_of 0 l.initial.reader l.flags.items l.reader

abbrev pub decreases-loop-reader : goal.decreases-loop-reader
decreases-loop-reader l = length l.reader
