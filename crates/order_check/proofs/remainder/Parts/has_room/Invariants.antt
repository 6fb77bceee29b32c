use Rattle.std.proofs.Common.{◌≡◌, ◌+◌, length, sum_by, take}
use Rattle.order_check.proofs.remainder.Parts.has_room.Given as goal

abbrev pub invariant-loop-txns : goal.invariant-loop-txns
invariant-loop-txns l = l.room + sum_by length (take l.txns-index l.self.remain) ≡ l.self.limit
