use Rattle.std.proofs.Common.{All, take}
use Rattle.strict_histories.specs.declared.timed.TimedTxn.{TimedTxn}
use Rattle.strict_histories.specs.Rewriting.{HasLowKeys}
use Rattle.strict_histories.proofs.room.have_low_keys.Given as goal

abbrev pub invariant-loop-txn : goal.invariant-loop-txn
invariant-loop-txn l = All (λ (t : TimedTxn). HasLowKeys t.txn) (take l.txn-index l.txns)
