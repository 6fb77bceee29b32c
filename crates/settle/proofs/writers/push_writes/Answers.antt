use Rattle.std.proofs.Common.{List, ℕ, take, ◌+◌, sym, subst}
use Rattle.txn.specs.declared.transactions.TxnId.{TxnId}
use Rattle.settle.specs.Writers.{GainsWrites}
use Rattle.settle.proofs.Written.{gains_next}
use Rattle.settle.proofs.writers.push_writes.Goals as goal

pub loop-key-preserved : goal.loop-key-preserved
loop-key-preserved c =
    subst (λ (xs : List (ℕ × TxnId)). GainsWrites (take (c.loop-key.key-index + 1) c.args.keys.now) c.args.id c.args.writes.now.items xs) (sym c.in_ok-push.ensures.items)
    (gains_next c.args.keys.now c.args.id c.args.writes.now.items c.loop-key.writes.items c.loop-key.key-index _ c.loop-key-test.true c.loop-key.invariant)
