-- The last so far.
use Rattle.std.proofs.Common.{take}
use Rattle.demo_store.specs.Logs.{IsLastLost}
use Rattle.demo_store.proofs.lookups.last_lost.Given as goal

abbrev pub invariant-loop-place : goal.invariant-loop-place
invariant-loop-place l = IsLastLost (take l.place l.log) l.key l.last
