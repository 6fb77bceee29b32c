use Rattle.std.proofs.Common.{◌≡◌, take}
use Rattle.logged_fragments.specs.Effects.{effects_of}
use Rattle.logged_fragments.proofs.logged.make_idle.Given as goal

abbrev pub invariant-loop-place : goal.invariant-loop-place
invariant-loop-place l = l.txns ≡ effects_of (take l.place l.flags) l.initial.txns
