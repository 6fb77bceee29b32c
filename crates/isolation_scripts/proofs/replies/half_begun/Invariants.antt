use Rattle.std.proofs.Common.{◌≡◌, take}
use Rattle.isolation_scripts.specs.Isolated.{half_begun}
use Rattle.isolation_scripts.proofs.replies.half_begun.Given as goal

abbrev pub invariant-loop-mark : goal.invariant-loop-mark
invariant-loop-mark l = l.begun.items ≡ half_begun (take l.mark-index l.marks)
