use Rattle.std.proofs.Common.{ap, arith, length, ℕ}
use Rattle.txn.specs.declared.transactions.Source.{Source}
use Rattle.demo_store.proofs.faults.source_read.Goals as goal

pub returns : goal.returns
returns c = λ source has.
    let reads = c.as_slice-read-items.ensures in
    let there = has.2 in
    c.loop-read.invariant has.0 (c.args.key, source) (omega (arith, ap length reads, has.1)) (rw reads (ap (λ (read : ℕ × Source). read.0) there))
