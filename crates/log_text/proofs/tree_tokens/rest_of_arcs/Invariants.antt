use Rattle.std.proofs.Common.{length}
use Rattle.log_text.specs.Refutations.{arc_of}
use Rattle.log_text.specs.Streams.{ReadSoFar}
use Rattle.log_text.proofs.tree_tokens.rest_of_arcs.Given as goal

abbrev pub invariant-loop-alloc : goal.invariant-loop-alloc
invariant-loop-alloc l = ReadSoFar (arc_of l.names) 1 l.initial.reader l.arcs.items l.reader

abbrev pub decreases-loop-alloc : goal.decreases-loop-alloc
decreases-loop-alloc l = length l.reader
