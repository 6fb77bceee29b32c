use Rattle.std.proofs.Common.{◌≡◌, take}
use Rattle.order_check.proofs.fronts.copy_of_front.Given as goal

abbrev pub invariant-loop-session : goal.invariant-loop-session
invariant-loop-session l = l.copies.items ≡ take l.session l.front.remain
