use Rattle.std.proofs.Common.{below_more, get_or, sym, subst}
use Rattle.std.specs.Prelude.{Contains}
use Rattle.txn.specs.declared.transactions.Source.{Source}
use Rattle.demo_store.specs.Faults.{IsLost}
use Rattle.demo_store.proofs.Lies.{first_told}
use Rattle.demo_store.proofs.faults.lost_update.Goals as goal

pub returns-in-Some : goal.returns-in-Some
returns-in-Some c =
    let log = c.args.log.now in
    let writes = c.args.request.now.writes in
    let lie = c.in-Some.lie in
    let told = c.in-Some.ensures in
    let items = c.as_slice-key-items.result.now in
    let index = c.loop-key.key-index in
    let written : Contains writes (get_or items index 0) = rw c.as_slice-writes.ensures at told.2 in
    rw (← c.as_slice-key-items.ensures)
    (first_told (λ k. Contains writes k × ((s : Source) × IsLost log k s)) items lie.key index c.loop-key-test.true told.0 told.1 (written, (lie.source, told.3)) c.loop-key.invariant, subst (λ k. IsLost log k lie.source) (sym told.0) told.3)

pub loop-key-preserved : goal.loop-key-preserved
loop-key-preserved c =
    let none = rw c.as_slice-writes.ensures at c.in_default.ensures in
    below_more _ _ c.loop-key.invariant (λ no_epoch (written, lost). none no_epoch written lost.0 lost.1)
