use Rattle.std.proofs.Common.{◌≡◌, take}
use Rattle.isolation_histories.specs.Split.{split_txns}
use Rattle.isolation_histories.proofs.splitting.split_fragment.Given as goal

abbrev pub invariant-loop-place : goal.invariant-loop-place
invariant-loop-place l = l.halves.items ≡ split_txns l.fragment.session l.fragment.first (take l.place l.txn-items)
