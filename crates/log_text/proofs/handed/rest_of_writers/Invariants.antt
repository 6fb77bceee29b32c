use Rattle.std.proofs.Common.{length}
use Rattle.log_text.specs.Commands.{writer_of}
use Rattle.log_text.specs.Streams.{ReadSoFar}
use Rattle.log_text.proofs.handed.rest_of_writers.Given as goal

abbrev pub invariant-loop-alloc : goal.invariant-loop-alloc
invariant-loop-alloc l = ReadSoFar writer_of 1 l.initial.reader l.writers.items l.reader

abbrev pub decreases-loop-alloc : goal.decreases-loop-alloc
decreases-loop-alloc l = length l.reader
