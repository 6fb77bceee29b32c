use Rattle.std.proofs.Common.{length}
use Rattle.log_text.specs.Numbers.{whole_number}
use Rattle.log_text.specs.Streams.{ReadSoFar}
use Rattle.log_text.proofs.streams.rest_of_numbers.Given as goal

abbrev pub invariant-loop-reader : goal.invariant-loop-reader
invariant-loop-reader l = ReadSoFar whole_number 0 l.initial.reader l.numbers.items l.reader

abbrev pub decreases-loop-reader : goal.decreases-loop-reader
decreases-loop-reader l = length l.reader
