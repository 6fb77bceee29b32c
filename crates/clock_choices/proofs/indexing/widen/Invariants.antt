use Rattle.std.proofs.Common.{◌≡◌, ◌≤◌, length}
use Rattle.txn.specs.declared.transactions.TxnId.{TxnId}
use Rattle.clock_choices.specs.Index.{reads_of}
use Rattle.clock_choices.proofs.indexing.widen.Given as goal

abbrev pub invariant-loop-more : goal.invariant-loop-more
invariant-loop-more l = record {
  within : l._more ≤ length l.reads.items;
  same : (id : TxnId) → reads_of l.reads.items id ≡ reads_of l.initial.reads.items id;
}
