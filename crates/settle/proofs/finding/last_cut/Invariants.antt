use Rattle.std.proofs.Common.{vec_len}
use Rattle.settle.specs.Lines.{IsLeft}
use Rattle.settle.proofs.finding.last_cut.Given as goal

abbrev pub invariant-loop-fence : goal.invariant-loop-fence
invariant-loop-fence l = IsLeft l.known.parts l.initial.fences.items l.fences.items

abbrev pub decreases-loop-fence : goal.decreases-loop-fence
decreases-loop-fence l = vec_len l.fences
