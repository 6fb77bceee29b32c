use Rattle.std.proofs.Common.{below_more, sym, subst}
use Rattle.txn.specs.declared.transactions.Source.{Source}
use Rattle.demo_store.specs.Faults.{IsDirty}
use Rattle.demo_store.proofs.Lies.{first_told}
use Rattle.demo_store.proofs.faults.dirty_read.Goals as goal

pub returns-in-Some : goal.returns-in-Some
returns-in-Some c =
    let log = c.args.log.now in
    let lie = c.in-Some.lie in
    let told = c.in-Some.ensures in
    rw (← c.as_slice-key-items.ensures)
    (first_told (λ k. (s : Source) × IsDirty log k s) c.as_slice-key-items.result.now lie.key c.loop-key.key-index c.loop-key-test.true told.0 told.1 (lie.source, told.2) c.loop-key.invariant, subst (λ k. IsDirty log k lie.source) (sym told.0) told.2)

pub loop-key-preserved : goal.loop-key-preserved
loop-key-preserved c = below_more _ _ c.loop-key.invariant (λ no_epoch dirty. c.in_default.ensures no_epoch dirty.0 dirty.1)
