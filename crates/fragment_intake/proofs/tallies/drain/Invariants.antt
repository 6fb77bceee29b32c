-- What was taken so far is counted.
use Rattle.std.proofs.Common.{◌≡◌, ◌++◌, List}
use Rattle.crossbeam_queue.specs.Passes.{view, IsPassOf}
use Rattle.fragment_intake.specs.declared.rules.Parcel.{Parcel}
use Rattle.fragment_intake.specs.Collectors.{Counts}
use Rattle.fragment_intake.proofs.tallies.drain.Given as goal

abbrev pub invariant-loop : goal.invariant-loop
invariant-loop g l =
    IsPassOf l.line l.pass × ((view l.pass).mine ≡ (view l.fn.pass).mine) × ((view l.pass).audits ≡ (view l.fn.pass).audits)
    × ((left : List Parcel) × ((view l.pass).got ≡ (view l.fn.pass).got ++ left) × Counts l.counts left)
