use Rattle.std.proofs.Common.{◌-◌, ◌≤◌, length}
use Rattle.log_text.specs.Streams.{FewSoFar}
use Rattle.log_text.proofs.streams.atoms.Given as goal

abbrev pub invariant-loop-alloc : goal.invariant-loop-alloc
invariant-loop-alloc l = FewSoFar l.most 0 l.initial.reader l.values.items (l.most - length l.values.items) l.reader × (length l.values.items ≤ l.most)

abbrev pub decreases-loop-alloc : goal.decreases-loop-alloc
decreases-loop-alloc l = length l.reader
