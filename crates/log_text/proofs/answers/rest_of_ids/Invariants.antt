use Rattle.std.proofs.Common.{length}
use Rattle.log_text.specs.Shown.{id_of}
use Rattle.log_text.specs.Streams.{ReadSoFar}
use Rattle.log_text.proofs.answers.rest_of_ids.Given as goal

abbrev pub invariant-loop-names : goal.invariant-loop-names
invariant-loop-names l = ReadSoFar (id_of l.names) 1 l.initial.reader l.order.items l.reader

abbrev pub decreases-loop-names : goal.decreases-loop-names
decreases-loop-names l = length l.reader
