use Rattle.std.proofs.Common.{◌≡◌, filter, length, take}
use Rattle.session_clocks.specs.Drops.{arc_stays}
use Rattle.clock_choices.proofs.cutting.count_to.Given as goal

abbrev pub invariant-loop-place : goal.invariant-loop-place
invariant-loop-place l = l.stay ≡ length (filter (arc_stays l.left) (take l.place l.arcs))
