use Rattle.std.proofs.Common.{◌≡◌, take}
use Rattle.isolation_scripts.specs.Handed.{half_marks}
use Rattle.isolation_scripts.proofs.handed.half_marks.Given as goal

abbrev pub invariant-loop-place : goal.invariant-loop-place
invariant-loop-place l = l.halves.items ≡ half_marks (take l.place l.marks) (take l.place l.begun)
