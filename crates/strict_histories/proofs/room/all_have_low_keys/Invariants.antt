use Rattle.std.proofs.Common.{All, take}
use Rattle.strict_histories.specs.declared.timed.TimedTxn.{TimedTxn}
use Rattle.strict_histories.specs.Rewriting.{HasLowKeys}
use Rattle.strict_histories.proofs.room.all_have_low_keys.Given as goal

abbrev pub invariant-loop-txns : goal.invariant-loop-txns
invariant-loop-txns l = All (All (λ (t : TimedTxn). HasLowKeys t.txn)) (take l.txns-index l.timed)
