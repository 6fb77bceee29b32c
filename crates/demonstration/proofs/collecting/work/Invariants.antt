-- A parcel was submitted for each step so far, with what is handed in of it, and what it did is noted.
use Rattle.std.proofs.Common.{◌≡◌, length}
use Rattle.demonstration.specs.Work.{AreStepsFrom, done_in}
use Rattle.demonstration.proofs.collecting.work.Given as goal

abbrev pub invariant-loop-step : goal.invariant-loop-step
invariant-loop-step g l = (l.pass.0 ≡ l.fn.pass.0) × (l.pass.1 ≡ l.fn.pass.1) × (length l.pass.2 ≡ l.step) × AreStepsFrom l.session 0 l.pass.2 × (l.done ≡ done_in l.pass.2)
