use Rattle.std.proofs.Common.{length, ◌<◌, List, ℕ, subst}
use Rattle.txn.specs.declared.transactions.Source.{Source}
use Rattle.txn.specs.History.{reads_in}
use Rattle.order_check.specs.Based.{remaining_at}
use Rattle.polygraph.proofs.NoBadReads.{reads_next}
use Rattle.polygraph.proofs.bad_reads.bad_read_of.Goals as goal

pub loop-read-preserved : goal.loop-read-preserved
loop-read-preserved c =
    let good = rw c.in_default.is at c.bad_read_in.ensures in
    let e = c.reads_of-read-items.ensures in
    reads_next c.args.parts.now (reads_in (remaining_at c.args.parts.now c.args.reader)) c.loop-read.read-index _ (subst (λ (xs : List (ℕ × Source)). c.loop-read.read-index < length xs) e c.loop-read-test.true) c.loop-read.invariant (rw e at good)
