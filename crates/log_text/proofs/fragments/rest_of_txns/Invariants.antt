use Rattle.std.proofs.Common.{length}
use Rattle.log_text.proofs.TxnsRead.{TxnsSoFar}
use Rattle.log_text.proofs.fragments.rest_of_txns.Given as goal

abbrev pub invariant-loop-alloc : goal.invariant-loop-alloc
invariant-loop-alloc l = TxnsSoFar l.most l.initial.reader l.txns.items l.flags.items l.reader

abbrev pub decreases-loop-alloc : goal.decreases-loop-alloc
decreases-loop-alloc l = length l.reader
