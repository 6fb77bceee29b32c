use Rattle.std.proofs.Common.{◌≡◌, take}
use Rattle.strict_histories.specs.Rewriting.{strict_txns}
use Rattle.strict_histories.proofs.rewriting.strict_session.Given as goal

abbrev pub invariant-loop-place : goal.invariant-loop-place
invariant-loop-place l = l.all.items ≡ strict_txns l.timed l.session 0 (take l.place l.txns)
