use Rattle.std.proofs.Common.{[], sym, subst}
use Rattle.std.specs.Ordering.{nat_cmp}
use Rattle.std.specs.FinMap.{FinMap}
use Rattle.txn.specs.declared.transactions.TxnId.{TxnId}
use Rattle.settle.specs.Writers.{AreNoted}
use Rattle.settle.proofs.Noted.{noted_none, noted_next}
use Rattle.settle.proofs.writers.note_writes.Goals as goal

pub loop-write-init : goal.loop-write-init
loop-write-init c = subst (λ (m : FinMap nat_cmp TxnId). AreNoted c.args.known.now.parts [] m) (sym c.new-last.ensures) (noted_none c.args.known.now.parts c.args.writes.now)

pub loop-write-preserved : goal.loop-write-preserved
loop-write-preserved c = noted_next c.args.known.now.parts c.args.writes.now _ _ c.loop-write.write-index _ c.requires c.loop-write-test.true c.loop-write.invariant c.in_ok-note_write.ensures
