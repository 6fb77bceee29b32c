use Rattle.std.proofs.Common.{take}
use Rattle.order_check.proofs.MetReads.{Notes}
use Rattle.order_check.proofs.Orders.{FirstMeet}
use Rattle.order_check.proofs.explaining.meets_all_reads.Given as goal

abbrev pub invariant-loop-id : goal.invariant-loop-id
invariant-loop-id l = record {
  notes : Notes l.parts (take l.id-index l.order) l.front;
  met : FirstMeet l.parts l.order l.id-index;
}
