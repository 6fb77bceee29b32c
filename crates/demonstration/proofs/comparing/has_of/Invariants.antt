-- What was passed so far, followed by what is left, is all that was done.
use Rattle.std.proofs.Common.{◌≡◌, ◌++◌, take}
use Rattle.demo_store.specs.Logs.{of_session}
use Rattle.demonstration.proofs.comparing.has_of.Given as goal

abbrev pub invariant-loop-executed : goal.invariant-loop-executed
invariant-loop-executed l = l.done ≡ of_session l.session (take l.executed-index l.log) ++ l.rest
