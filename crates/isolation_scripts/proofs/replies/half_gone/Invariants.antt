use Rattle.std.proofs.Common.{◌≡◌, ◌≤◌, take}
use Rattle.isolation_scripts.specs.Isolated.{half_gone}
use Rattle.isolation_scripts.proofs.replies.half_gone.Given as goal

abbrev pub invariant-loop-mark : goal.invariant-loop-mark
invariant-loop-mark l = record {
  counted : l.count ≡ half_gone (take l.mark-index l.marks);
  few : l.count ≤ l.mark-index;
}
