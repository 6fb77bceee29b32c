-- The last writer so far.
use Rattle.std.proofs.Common.{take}
use Rattle.demo_store.specs.Logs.{IsLastPlace}
use Rattle.demo_store.proofs.lookups.last_place.Given as goal

abbrev pub invariant-loop-place : goal.invariant-loop-place
invariant-loop-place l = IsLastPlace (take l.place l.log) l.key l.last
