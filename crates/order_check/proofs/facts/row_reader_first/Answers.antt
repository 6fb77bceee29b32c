use Rattle.std.proofs.Common.{refl, [], ◌∷◌, lit<, true≢false}
use Rattle.order_check.specs.Rows.{id, reader_first, reads}
use Rattle.txn.specs.declared.transactions.Source.TheVariants.{Init}
use Rattle.order_check.proofs.Fresh.{whole_by_test, serial_by_test}
use Rattle.order_check.proofs.facts.row_reader_first.Goals as goal

pub returns-clause-reader_then_writer : goal.returns-clause-reader_then_writer
returns-clause-reader_then_writer c = whole_by_test reader_first (id 1 0 ∷ id 0 0 ∷ []) refl refl

pub returns-clause-not_writer_then_reader : goal.returns-clause-not_writer_then_reader
returns-clause-not_writer_then_reader c explains =
    let met = explains.reads (id 0 0 ∷ []) [] (id 1 0) refl (reads 5 Init) refl 0 (5, Init) (lit< tt) in
    true≢false (met 0 (id 0 0) (lit< tt))

pub returns-clause-verdict : goal.returns-clause-verdict
returns-clause-verdict c = serial_by_test reader_first (id 1 0 ∷ id 0 0 ∷ []) refl refl refl
