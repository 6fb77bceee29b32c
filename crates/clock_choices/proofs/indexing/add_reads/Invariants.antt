use Rattle.std.proofs.Common.{Contains, take}
use Rattle.txn.specs.declared.transactions.TxnId.{TxnId}
use Rattle.clock_choices.specs.Adds.{Adds, Among}
use Rattle.clock_choices.specs.Index.{reads_of}
use Rattle.clock_choices.specs.Indexing.{IsReadFrom}
use Rattle.clock_choices.proofs.indexing.add_reads.Given as goal

abbrev pub invariant-loop-key : goal.invariant-loop-key
invariant-loop-key l = (other : TxnId) → Adds (Contains (reads_of l.initial.reads.items other)) (Contains (reads_of l.reads.items other)) (Among (IsReadFrom l.reader other) (take l.key-index l.list))
