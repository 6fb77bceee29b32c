use Rattle.std.proofs.Common.{sym}
use Rattle.std.proofs.lemmas.Result.{on_ok_weaker}
use Rattle.clock_choices.specs.declared.indexing.Index.{Index}
use Rattle.clock_choices.proofs.Indexed.{txn_indexed}
use Rattle.clock_choices.proofs.indexing.add_txn.Goals as goal

pub returns-clause-runs : goal.returns-clause-runs
returns-clause-runs c = on_ok_weaker c.add_base_reads.result (λ adds. c.in_ok-add_writes.ensures.runs) c.add_base_reads.ensures

pub returns-clause-adds : goal.returns-clause-adds
returns-clause-adds c =
    let new : Index = record { writers = c.add_writes.new.writers; reads = c.add_reads.new.reads; base = c.add_base_reads.new.base } in
    on_ok_weaker c.add_base_reads.result (λ base. txn_indexed c.args.parts.now c.args.id c.in-Some.txn.now (sym c.in-Some.ensures) c.args.index.now new
    (rw c.as_slice.ensures at c.in_ok-add_writes.ensures.adds) (rw c.as_slice-2.ensures at c.in_ok-add_reads.ensures) base) (rw c.as_slice-3.ensures at c.add_base_reads.ensures)
